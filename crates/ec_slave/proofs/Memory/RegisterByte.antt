-- What a register reads, by where it lies.
use Rattle.std.proofs.Common.{ℕ, ◌-◌, ◌/◌, ◌%◌, ◌<◌, ◌≤◌, ◌≡◌, ◌==◌, ◌||◌, Bool, true, false, refl, arith, slice_index}
use Rattle.std.specs.Int.{to_le_bytes, w16}
use Rattle.std.proofs.lemmas.Bool.{both_ways, eqb-true, false_from_ne_true, lt-ltb}
use Rattle.ec_bits.specs.Bits.{within}
use Rattle.ec_bits.proofs.AnyLaws.{if_true, within_true}
use Rattle.ec_regs.specs.Memory.{ram_start}
use Rattle.ec_al.specs.Al.{status_word}
use Rattle.ec_dl.specs.DataLink.{dl_byte}
use Rattle.ec_sii.specs.Port.{sii_byte}
use Rattle.ec_slave.specs.State.{SlaveState}
use Rattle.ec_slave.specs.Physical.{byte_at, numbered_byte, register_byte}

pub register-read : (s : SlaveState) (a : ℕ) → a < ram_start → byte_at s a ≡ register_byte s a
unfolding byte_at
register-read s a l = if_true _ _ _ (lt-ltb a ram_start l)

-- the registers that datagrams store in the memory itself
abbrev pub in_memory : ℕ → Bool
in_memory a = within 0x0010 2 a || (within 0x0120 2 a || within 0x0600 64 a)

other : (a n : ℕ) → within 4 3 a ≡ false → 4 ≤ n → n < 7 → (a == n) ≡ false
other a n h lo hi = false_from_ne_true (a == n) (λ t.
    let e = eqb-true a n t in
    both_ways (within 4 3 a) h (within_true 4 3 a (omega (arith, lo)) (omega (arith, hi))))

no-fmmus : (a : ℕ) → within 4 3 a ≡ false → (a == 4) ≡ false
no-fmmus a h = other a 4 h (omega arith) (omega arith)

no-count : (a : ℕ) → within 4 3 a ≡ false → (a == 5) ≡ false
no-count a h = other a 5 h (omega arith) (omega arith)

no-size : (a : ℕ) → within 4 3 a ≡ false → (a == 6) ≡ false
no-size a h = other a 6 h (omega arith) (omega arith)

pub stored-byte : (s : SlaveState) (a : ℕ) → within 4 3 a ≡ false → in_memory a ≡ true → register_byte s a ≡ slice_index s.memory a
unfolding register_byte
stored-byte s a h m = let f = no-fmmus a h in let n = no-count a h in let z = no-size a h in rw (f, n, z, m) refl

pub status-byte : (s : SlaveState) (a : ℕ) → within 4 3 a ≡ false → in_memory a ≡ false → within 304 2 a ≡ true
    → register_byte s a ≡ slice_index (to_le_bytes w16 (status_word s.al)) (a - 304)
unfolding register_byte
status-byte s a h m w = let f = no-fmmus a h in let n = no-count a h in let z = no-size a h in rw (f, n, z, m, w) refl

pub code-byte : (s : SlaveState) (a : ℕ) → within 4 3 a ≡ false → in_memory a ≡ false → within 304 2 a ≡ false → within 308 2 a ≡ true
    → register_byte s a ≡ slice_index (to_le_bytes w16 s.al.code) (a - 308)
unfolding register_byte
code-byte s a h m w v = let f = no-fmmus a h in let n = no-count a h in let z = no-size a h in rw (f, n, z, m, w, v) refl

pub port-byte : (s : SlaveState) (a : ℕ) → within 4 3 a ≡ false → in_memory a ≡ false → within 304 2 a ≡ false → within 308 2 a ≡ false → within 1282 10 a ≡ true
    → register_byte s a ≡ sii_byte s.sii a
unfolding register_byte
port-byte s a h m w v p = let f = no-fmmus a h in let n = no-count a h in let z = no-size a h in rw (f, n, z, m, w, v, p) refl

pub settings-byte : (s : SlaveState) (a : ℕ) → within 4 3 a ≡ false → in_memory a ≡ false → within 304 2 a ≡ false → within 308 2 a ≡ false → within 1282 10 a ≡ false → within 2048 32 a ≡ true
    → register_byte s a ≡ numbered_byte s.kind.hardware s.managers ((a - 2048) / 8) (a % 8)
unfolding register_byte
settings-byte s a h m w v p k = let f = no-fmmus a h in let n = no-count a h in let z = no-size a h in rw (f, n, z, m, w, v, p, k) refl

pub link-byte : (s : SlaveState) (a : ℕ) → within 4 3 a ≡ false → in_memory a ≡ false → within 304 2 a ≡ false → within 308 2 a ≡ false → within 1282 10 a ≡ false → within 2048 32 a ≡ false
    → register_byte s a ≡ dl_byte s.link a
unfolding register_byte
link-byte s a h m w v p k = let f = no-fmmus a h in let n = no-count a h in let z = no-size a h in rw (f, n, z, m, w, v, p, k) refl
