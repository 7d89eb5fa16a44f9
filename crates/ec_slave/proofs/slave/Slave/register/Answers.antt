use Rattle.std.proofs.Common.{ℕ, ◌-◌, ◌∙◌, List, sym, ap, arith, slice_index}
use Rattle.std.proofs.lemmas.List.{get_or_default}
use Rattle.std.specs.Int.{to_le_bytes, w16}
use Rattle.ec_al.specs.Al.{status_word}
use Rattle.ec_dl.specs.DataLink.{dl_byte}
use Rattle.ec_sii.specs.Port.{sii_byte}
use Rattle.ec_slave.specs.State.{SlaveState}
use Rattle.ec_slave.proofs.Memory.RegisterByte.{register-read, stored-byte, status-byte, code-byte, port-byte, settings-byte, link-byte}
use Rattle.ec_slave.proofs.slave.Slave.register.Goals as goal

pub returns-then-within : goal.returns-then-within
returns-then-within c = c.constant.ensures ∙ sym (register-read c.args.self.now c.args.address c.requires)

pub returns-then-is_in_memory : goal.returns-then-is_in_memory
returns-then-is_in_memory c =
    let s : SlaveState = c.args.self.now in
    let a : ℕ = c.args.address in
    let h = sym c.within.ensures ∙ c.if-within.false in
    let m = sym c.is_in_memory.ensures ∙ c.if-is_in_memory.true in
    c.index.ensures ∙ (get_or_default c.self.inside.memory.items a c.index.result.now 0 (let ram = c.requires in let room = c.self.invariant.room in omega (arith, ram, room))
    ∙ ap (λ (x : SlaveState). slice_index x.memory a) c.self.view_is)
    ∙ sym (register-read s a c.requires ∙ stored-byte s a h m)

pub returns-then-within-2 : goal.returns-then-within-2
returns-then-within-2 c =
    let s : SlaveState = c.args.self.now in
    let a : ℕ = c.args.address in
    let h = sym c.within.ensures ∙ c.if-within.false in
    let m = sym c.is_in_memory.ensures ∙ c.if-is_in_memory.false in
    let w = sym c.within-2.ensures ∙ c.if-within-2.true in
    ap (λ (xs : List ℕ). slice_index xs (a - 304)) c.to_le_bytes.ensures
    ∙ (ap (λ (n : ℕ). slice_index (to_le_bytes w16 n) (a - 304)) c.status_word.ensures ∙ ap (λ (x : SlaveState). slice_index (to_le_bytes w16 (status_word x.al)) (a - 304)) c.self.view_is)
    ∙ sym (register-read s a c.requires ∙ status-byte s a h m w)

pub returns-then-within-3 : goal.returns-then-within-3
returns-then-within-3 c =
    let s : SlaveState = c.args.self.now in
    let a : ℕ = c.args.address in
    let h = sym c.within.ensures ∙ c.if-within.false in
    let m = sym c.is_in_memory.ensures ∙ c.if-is_in_memory.false in
    let w = sym c.within-2.ensures ∙ c.if-within-2.false in
    let v = sym c.within-3.ensures ∙ c.if-within-3.true in
    ap (λ (xs : List ℕ). slice_index xs (a - 308)) c.to_le_bytes-then-within-3.ensures
    ∙ (ap (λ (n : ℕ). slice_index (to_le_bytes w16 n) (a - 308)) c.code.ensures.value ∙ ap (λ (x : SlaveState). slice_index (to_le_bytes w16 x.al.code) (a - 308)) c.self.view_is)
    ∙ sym (register-read s a c.requires ∙ code-byte s a h m w v)

pub returns-then-within-4 : goal.returns-then-within-4
returns-then-within-4 c =
    let s : SlaveState = c.args.self.now in
    let a : ℕ = c.args.address in
    let h = sym c.within.ensures ∙ c.if-within.false in
    let m = sym c.is_in_memory.ensures ∙ c.if-is_in_memory.false in
    let w = sym c.within-2.ensures ∙ c.if-within-2.false in
    let v = sym c.within-3.ensures ∙ c.if-within-3.false in
    let p = sym c.within-4.ensures ∙ c.if-within-4.true in
    c.read.ensures ∙ ap (λ (x : SlaveState). sii_byte x.sii a) c.self.view_is
    ∙ sym (register-read s a c.requires ∙ port-byte s a h m w v p)

pub returns-then-within-5 : goal.returns-then-within-5
returns-then-within-5 c =
    let s : SlaveState = c.args.self.now in
    let a : ℕ = c.args.address in
    let h = sym c.within.ensures ∙ c.if-within.false in
    let m = sym c.is_in_memory.ensures ∙ c.if-is_in_memory.false in
    let w = sym c.within-2.ensures ∙ c.if-within-2.false in
    let v = sym c.within-3.ensures ∙ c.if-within-3.false in
    let p = sym c.within-4.ensures ∙ c.if-within-4.false in
    let k = sym c.within-5.ensures ∙ c.if-within-5.true in
    c.manager_register.ensures ∙ sym (register-read s a c.requires ∙ settings-byte s a h m w v p k)

pub returns : goal.returns
returns c =
    let s : SlaveState = c.args.self.now in
    let a : ℕ = c.args.address in
    let h = sym c.within.ensures ∙ c.if-within.false in
    let m = sym c.is_in_memory.ensures ∙ c.if-is_in_memory.false in
    let w = sym c.within-2.ensures ∙ c.if-within-2.false in
    let v = sym c.within-3.ensures ∙ c.if-within-3.false in
    let p = sym c.within-4.ensures ∙ c.if-within-4.false in
    let k = sym c.within-5.ensures ∙ c.if-within-5.false in
    c.read-2.ensures ∙ ap (λ (x : SlaveState). dl_byte x.link a) c.self.view_is
    ∙ sym (register-read s a c.requires ∙ link-byte s a h m w v p k)
