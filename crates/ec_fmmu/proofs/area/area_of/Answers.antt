use Rattle.std.proofs.Common.{◌≡◌, ◌∙◌, sym, ap, subst, arith, false, get_or}
use Rattle.std.proofs.lemmas.List.{get_or_default}
use Rattle.ec_regs.specs.declared.fmmu.FmmuSettings.{FmmuSettings}
use Rattle.ec_regs.specs.Fmmus.{no_fmmu}
use Rattle.ec_fmmu.specs.Runs.{RunOf}
use Rattle.ec_fmmu.proofs.RunLaws.{is_mapped}
use Rattle.ec_fmmu.proofs.area.area_of.Goals as goal

pub returns : goal.returns
returns c =
    let fs = c.args.fmmus.now in
    let at0 : get_or fs 0 (c.index-fmmus-0.result) ≡ get_or fs 0 no_fmmu = get_or_default fs 0 (c.index-fmmus-0.result) no_fmmu (omega arith) in
    let at1 : get_or fs 1 (c.index-fmmus-1.result) ≡ get_or fs 1 no_fmmu = get_or_default fs 1 (c.index-fmmus-1.result) no_fmmu (omega arith) in
    let at2 : get_or fs 2 (c.index-fmmus-2.result) ≡ get_or fs 2 no_fmmu = get_or_default fs 2 (c.index-fmmus-2.result) no_fmmu (omega arith) in
    let at3 : get_or fs 3 (c.index-fmmus-3.result) ≡ get_or fs 3 no_fmmu = get_or_default fs 3 (c.index-fmmus-3.result) no_fmmu (omega arith) in
    let out = c.in_ok-out.out in
    let inside = c.in_ok-inside.inside in
    is_mapped fs (record { outs = out.bits; out_at = out.at; out_start = out.start; ins = inside.bits; in_at = inside.at; in_start = inside.start }) (omega arith)
    (subst (λ (f : FmmuSettings). f.reads ≡ false) at0 (sym c.reads.ensures ∙ c.if-reads.false))
    (subst (λ (f : FmmuSettings). f.writes ≡ false) at1 (sym c.writes.ensures ∙ c.if-writes.false))
    (subst (λ (f : FmmuSettings). f.reads ≡ false) at2 c.if-not-is_idle.ensures.reads)
    (subst (λ (f : FmmuSettings). f.writes ≡ false) at2 c.if-not-is_idle.ensures.writes)
    (subst (λ (f : FmmuSettings). f.reads ≡ false) at3 c.if-not-is_idle-2.ensures.reads)
    (subst (λ (f : FmmuSettings). f.writes ≡ false) at3 c.if-not-is_idle-2.ensures.writes)
    (record {
      goes = c.writes-3.result;
      is = c.writes-3.ensures ∙ ap (λ (f : FmmuSettings). f.writes) at0;
      run = subst (λ (f : FmmuSettings). RunOf f c.writes-3.result out.at out.bits out.start) at0 c.in_ok-out.ensures.run;
      small = c.in_ok-out.ensures.small;
    })
    (record {
      goes = c.reads-2.result;
      is = c.reads-2.ensures ∙ ap (λ (f : FmmuSettings). f.reads) at1;
      run = subst (λ (f : FmmuSettings). RunOf f c.reads-2.result inside.at inside.bits inside.start) at1 c.in_ok-inside.ensures.run;
      small = c.in_ok-inside.ensures.small;
    })
