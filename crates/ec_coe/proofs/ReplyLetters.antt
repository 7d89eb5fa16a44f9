-- The bytes of a reply are those of a message, or, where the letters of a name follow it, read back as none.
use Rattle.std.specs.Prelude.{ℕ, ◌+◌, ◌*◌, ◌%◌, ◌==◌, ◌≡◌, ◌⊎◌, not, List, [], ◌∷◌, ◌++◌, length, false, nat_lt, slice_index, Option, Some, None}
use Rattle.std.proofs.Common.{refl, inl, inr, arith, suc}
use Rattle.std.proofs.lemmas.Bool.{and_left, and_right, ne_eqb}
use Rattle.ec_bits.proofs.AnyLaws.{if_false}
use Rattle.ec_coe.specs.declared.message.Message.{Message}
use Rattle.ec_coe.specs.Messages.{message_bytes, message_read, message_length}
use Rattle.ec_coe.specs.NameLaws.{RepliesReadAlone}
use Rattle.ec_coe.specs.ReplyBytes.{bytes_with, letters_behind, message_with, reply_bytes}

-- no letters follow it after all
alone : (m : Message) → message_with m [] ≡ message_bytes m
unfolding message_bytes
alone m = refl

-- the mailbox header counts more bytes than an expedited transfer has
named : (m : Message) (x : ℕ) (xs rest : List ℕ) → message_read (message_with m (x ∷ xs) ++ rest) ≡ None
unfolding message_bytes message_read
named m x xs rest =
    let raw : List ℕ = message_with m (x ∷ xs) ++ rest in
    let other : (10 + suc (length xs) + 256 * 0 == 10) ≡ false = ne_eqb (10 + suc (length xs) + 256 * 0) 10 (λ e. omega (arith, e)) in
    if_false _ _ _ (and_right (not (nat_lt (length raw) message_length)) _ (and_left _ (slice_index raw 5 % 16 == 3) other))

pub message_or_none : RepliesReadAlone
unfolding reply_bytes
message_or_none d room m rest = by (letters_behind d.kind.face room m.command)
  where
    by : (o : Option (List ℕ)) → (bytes_with m o ≡ message_bytes m) ⊎ (message_read (bytes_with m o ++ rest) ≡ None)
    by None = inl refl
    by (Some []) = inl (alone m)
    by (Some (x ∷ xs)) = inr (named m x xs rest)
