-- Packets noted one after the other.
use Rattle.std.proofs.Common.{ℕ, ◌≡◌, ◌∙◌, refl, sym, ap, subst, List, [], ◌∷◌, ◌++◌, append_assoc, map, Bool, true, false}
use Rattle.std.proofs.lemmas.List.{map-append}
use Rattle.std.specs.Io.KnownBytes.{Appends}
use Rattle.ec_capture.specs.Blocks.{Block, block_bytes, blocks_bytes}
use Rattle.ec_capture.specs.Captures.{Captured, packet_block}
use Rattle.ec_capture.specs.Recordings.{Notes, Recording, packets_bytes}
use Rattle.ec_capture.specs.Writing.{AppendsPart}
use Rattle.ec_capture.proofs.AppendedBytes.{appends_more, appends_nothing, part_first, part_then}

blocks-append : (bs ds : List Block) → blocks_bytes (bs ++ ds) ≡ blocks_bytes bs ++ blocks_bytes ds
blocks-append [] ds = refl
blocks-append (b ∷ bs) ds = ap (λ (xs : List ℕ). block_bytes b ++ xs) (blocks-append bs ds) ∙ sym (append_assoc (block_bytes b) (blocks_bytes bs) (blocks_bytes ds))

packets-append : (ss ts : List Captured) → packets_bytes ss ++ packets_bytes ts ≡ packets_bytes (ss ++ ts)
packets-append ss ts = sym (ap (λ (bs : List Block). blocks_bytes bs) (map-append packet_block ss ts) ∙ blocks-append (map packet_block ss) (map packet_block ts))

-- none
pub notes_nothing : (r : Recording) → Notes [] r r
notes_nothing r = record {
  interfaces = refl;
  all = λ whole. appends_nothing r.file;
  part = λ cut. (0, appends_nothing r.file);
  whole = λ whole. whole;
  cut = λ cut. refl;
}

-- whatever was to be noted, where the capture is cut short
pub notes_cut : (ss : List Captured) (r : Recording) → Notes ss r (record r { is_whole = false })
notes_cut ss r = record {
  interfaces = refl;
  all = λ whole. cc;
  part = λ cut. (0, appends_nothing r.file);
  whole = λ whole. cc;
  cut = λ cut. ap (λ (b : Bool). record r { is_whole = b }) (sym cut);
}

-- by whether it was whole in between
then_part : (mid_whole : Bool) (ss ts : List Captured) (a b c : Recording) → b.is_whole ≡ mid_whole → Notes ss a b → Notes ts b c → c.is_whole ≡ false → AppendsPart a.file c.file (packets_bytes (ss ++ ts))
then_part true ss ts a b c is first then cut =
    subst (λ (xs : List ℕ). AppendsPart a.file c.file xs) (packets-append ss ts)
    (part_then (packets_bytes ss) (packets_bytes ts) a.file b.file c.file (first.all is) (then.part cut))
then_part false ss ts a b c is first then cut =
    let same : c ≡ b = then.cut is in
    subst (λ (xs : List ℕ). AppendsPart a.file c.file xs) (packets-append ss ts)
    (part_first (packets_bytes ss) (packets_bytes ts) a.file c.file
    (subst (λ (r : Recording). AppendsPart a.file r.file (packets_bytes ss)) (sym same) (first.part is)))

pub notes_then : (ss ts : List Captured) (a b c : Recording) → Notes ss a b → Notes ts b c → Notes (ss ++ ts) a c
notes_then ss ts a b c first then = record {
  interfaces = then.interfaces ∙ first.interfaces;
  all = λ whole. subst (λ (xs : List ℕ). Appends a.file c.file xs) (packets-append ss ts)
      (appends_more a.file b.file c.file (packets_bytes ss) (packets_bytes ts) (first.all (then.whole whole)) (then.all whole));
  part = λ cut. then_part b.is_whole ss ts a b c refl first then cut;
  whole = λ whole. first.whole (then.whole whole);
  cut = λ cut. let same : b ≡ a = first.cut cut in let mid : b.is_whole ≡ false = ap (λ (r : Recording). r.is_whole) same ∙ cut in then.cut mid ∙ same;
}
