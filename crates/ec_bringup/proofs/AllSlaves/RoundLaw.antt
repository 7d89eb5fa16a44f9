-- A start-up's frame of two datagrams past all slaves: the first is a NOP, and the frame that comes back is taken.
use Rattle.ec_bringup.proofs.Words.{ℕ, ◌≡◌, refl, sym, ◌∙◌, ap, subst, List, [], ◌∷◌, length, Command, Datagram, IsDatagram, SlaveState, Meeting as Met, meets-keeps, logical_meet, Passed, slave_met, datagram_met, passes, heading_stays, datagram_of, name_datagram, action_of, Shape, shape, IsStartAnswer, all_passed, all_met, RoundLaw, passes_ring}

pub two-pass : (s : SlaveState) (number : ℕ) (d : Datagram) → passes s (name_datagram number 0 ∷ d ∷ []) ≡ record { slave = slave_met s d; datagrams = name_datagram number 0 ∷ datagram_met s d ∷ [] }
two-pass s number d = ap (λ (m : Met). record { slave = (passes m.slave (d ∷ [])).slave; datagrams = m.datagram ∷ (passes m.slave (d ∷ [])).datagrams }) ((logical_meet s (name_datagram number 0)).nop refl)

frame-all : (ss : List SlaveState) (number : ℕ) (d : Datagram) → (passes_ring ss (name_datagram number 0 ∷ d ∷ [])).datagrams ≡ name_datagram number 0 ∷ all_passed ss d ∷ []
frame-all [] number d = refl
frame-all (s ∷ ss) number d = ap (λ (p : Passed). (passes_ring ss p.datagrams).datagrams) (two-pass s number d) ∙ frame-all ss number (datagram_met s d)

slaves-all : (ss : List SlaveState) (number : ℕ) (d : Datagram) → (passes_ring ss (name_datagram number 0 ∷ d ∷ [])).slaves ≡ all_met ss d
slaves-all [] number d = refl
slaves-all (s ∷ ss) number d = ap (λ (p : Passed). p.slave ∷ (passes_ring ss p.datagrams).slaves) (two-pass s number d) ∙ ap (λ (xs : List SlaveState). slave_met s d ∷ xs) (slaves-all ss number (datagram_met s d))

shape-by : (c1 c2 : Command) (i j n m : ℕ) → c1 ≡ c2 → i ≡ j → n ≡ m → (let x : Shape = record { command = c1; index = i; bytes = n } in let y : Shape = record { command = c2; index = j; bytes = m } in x ≡ y)
shape-by c1 c2 i j n m a b c = cc

shape-stays : (ss : List SlaveState) (d : Datagram) → IsDatagram d → shape (all_passed ss d) ≡ shape d
shape-stays [] d good = refl
shape-stays (s ∷ ss) d good =
    let h = heading_stays s d good in
    shape-stays ss (datagram_met s d) (meets-keeps s d good).0
    ∙ shape-by (datagram_met s d).command d.command (datagram_met s d).index d.index (length (datagram_met s d).data_bytes) (length d.data_bytes) h.command h.index h.data_length

pub round : RoundLaw
round s number ss good =
    let e = frame-all ss number (datagram_of (action_of s) number) in
    record {
      datagrams = e;
      slaves = slaves-all ss number (datagram_of (action_of s) number);
      answer = subst (λ (ds : List Datagram). IsStartAnswer s number ds) (sym e) (record {
        shapes = ap (λ (x : Shape). shape (name_datagram number 0) ∷ x ∷ []) (shape-stays ss (datagram_of (action_of s) number) good);
        number_is = refl;
      });
    }
