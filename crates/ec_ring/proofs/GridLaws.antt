-- Slave after slave against the grid.
use Rattle.std.proofs.Common.{ℕ, zero, suc, ◌+◌, ◌<◌, ◌≡◌, refl, sym, ◌∙◌, ap, arith, List, [], ◌∷◌, length, slice_get, Some}
use Rattle.ec_frame.specs.Datagram.{Datagram}
use Rattle.ec_slave.specs.State.{SlaveState}
use Rattle.ec_slave.specs.Meeting.{meets, passes}
use Rattle.ec_ring.specs.Rings.{passes_ring}
use Rattle.ec_ring.specs.Grid.{IsGrid, RingIsGrid, SlaveIsRow}

-- One row of the grid.
pub record IsRow (s : SlaveState) (ds : List Datagram) (slave : ℕ → SlaveState) (before after : ℕ → Datagram) : Type 0 where
  pub first : s ≡ slave 0
  pub columns : (j : ℕ) → j < length ds → slice_get ds j ≡ Some (before j)
  pub slave_after : (j : ℕ) → j < length ds → slave (j + 1) ≡ (meets (slave j) (before j)).slave
  pub datagram_after : (j : ℕ) → j < length ds → after j ≡ (meets (slave j) (before j)).datagram

some_same : {X : Type 0} (x y : X) → Some x ≡ Some y → x ≡ y
some_same x y e = cc

here : (s : SlaveState) (d : Datagram) (ds : List Datagram) (slave : ℕ → SlaveState) (before after : ℕ → Datagram) → IsRow s (d ∷ ds) slave before after → meets (slave 0) (before 0) ≡ meets s d
here s d ds slave before after r =
    let e : before 0 ≡ d = sym (some_same d (before 0) (r.columns 0 (omega arith))) in
    ap (λ x. meets (slave 0) x) e ∙ ap (λ x. meets x d) (sym r.first)

row_rest : (s : SlaveState) (d : Datagram) (ds : List Datagram) (slave : ℕ → SlaveState) (before after : ℕ → Datagram) → IsRow s (d ∷ ds) slave before after → IsRow (meets s d).slave ds (λ j. slave (suc j)) (λ j. before (suc j)) (λ j. after (suc j))
row_rest s d ds slave before after r =
    let one : 0 + 1 ≡ suc 0 = omega arith in
    record {
      first = sym (ap slave (sym one) ∙ (r.slave_after 0 (omega arith) ∙ ap (λ m. m.slave) (here s d ds slave before after r)));
      columns = λ j l. r.columns (suc j) (omega arith);
      slave_after = λ j l. let e : suc (j + 1) ≡ suc j + 1 = omega arith in ap slave e ∙ r.slave_after (suc j) (omega arith);
      datagram_after = λ j l. r.datagram_after (suc j) (omega arith);
    }

row_slave : (s : SlaveState) (ds : List Datagram) (slave : ℕ → SlaveState) (before after : ℕ → Datagram) → IsRow s ds slave before after → (passes s ds).slave ≡ slave (length ds)
row_slave s [] slave before after r = r.first
row_slave s (d ∷ ds) slave before after r = row_slave (meets s d).slave ds (λ j. slave (suc j)) (λ j. before (suc j)) (λ j. after (suc j)) (row_rest s d ds slave before after r)

pub row_length : (s : SlaveState) (ds : List Datagram) → length (passes s ds).datagrams ≡ length ds
row_length s [] = refl
row_length s (d ∷ ds) = ap suc (row_length (meets s d).slave ds)

row_datagrams : (s : SlaveState) (ds : List Datagram) (slave : ℕ → SlaveState) (before after : ℕ → Datagram) → IsRow s ds slave before after → (j : ℕ) → j < length ds → slice_get (passes s ds).datagrams j ≡ Some (after j)
row_datagrams s [] slave before after r j l = absurd (omega arith)
row_datagrams s (d ∷ ds) slave before after r zero l = ap (λ m. Some m.datagram) (sym (here s d ds slave before after r)) ∙ ap (λ x. Some x) (sym (r.datagram_after 0 l))
row_datagrams s (d ∷ ds) slave before after r (suc j) l = row_datagrams (meets s d).slave ds (λ k. slave (suc k)) (λ k. before (suc k)) (λ k. after (suc k)) (row_rest s d ds slave before after r) j (omega arith)

first_row : (s : SlaveState) (ss : List SlaveState) (ds : List Datagram) (slave : ℕ → ℕ → SlaveState) (datagram : ℕ → ℕ → Datagram) → IsGrid (s ∷ ss) ds slave datagram → IsRow s ds (slave 0) (datagram 0) (datagram 1)
first_row s ss ds slave datagram g =
    let one : 0 + 1 ≡ 1 = omega arith in
    record {
      first = some_same s (slave 0 0) (g.rows 0 (omega arith));
      columns = g.columns;
      slave_after = λ j l. g.slave_after 0 j (omega arith) l;
      datagram_after = λ j l. ap (λ i. datagram i j) (sym one) ∙ g.datagram_after 0 j (omega arith) l;
    }

rest_grid : (s : SlaveState) (ss : List SlaveState) (ds : List Datagram) (slave : ℕ → ℕ → SlaveState) (datagram : ℕ → ℕ → Datagram) → IsGrid (s ∷ ss) ds slave datagram → IsGrid ss (passes s ds).datagrams (λ i. slave (suc i)) (λ i. datagram (suc i))
rest_grid s ss ds slave datagram g =
    let len = row_length s ds in
    let row = first_row s ss ds slave datagram g in
    record {
      rows = λ i l. g.rows (suc i) (omega arith);
      columns = λ j l. row_datagrams s ds (slave 0) (datagram 0) (datagram 1) row j (omega (arith, len));
      slave_after = λ i j l k. g.slave_after (suc i) j (omega arith) (omega (arith, len));
      datagram_after = λ i j l k. let e : suc (i + 1) ≡ suc i + 1 = omega arith in ap (λ n. datagram n j) e ∙ g.datagram_after (suc i) j (omega arith) (omega (arith, len));
    }

pub grid_slaves : (ss : List SlaveState) (ds : List Datagram) (slave : ℕ → ℕ → SlaveState) (datagram : ℕ → ℕ → Datagram) → IsGrid ss ds slave datagram → (i : ℕ) → i < length ss → slice_get (passes_ring ss ds).slaves i ≡ Some (slave i (length ds))
grid_slaves [] ds slave datagram g i l = absurd (omega arith)
grid_slaves (s ∷ ss) ds slave datagram g zero l = ap (λ x. Some x) (row_slave s ds (slave 0) (datagram 0) (datagram 1) (first_row s ss ds slave datagram g))
grid_slaves (s ∷ ss) ds slave datagram g (suc i) l =
    grid_slaves ss (passes s ds).datagrams (λ k. slave (suc k)) (λ k. datagram (suc k)) (rest_grid s ss ds slave datagram g) i (omega arith) ∙ ap (λ n. Some (slave (suc i) n)) (row_length s ds)

pub grid_datagrams : (ss : List SlaveState) (ds : List Datagram) (slave : ℕ → ℕ → SlaveState) (datagram : ℕ → ℕ → Datagram) → IsGrid ss ds slave datagram → (j : ℕ) → j < length ds → slice_get (passes_ring ss ds).datagrams j ≡ Some (datagram (length ss) j)
grid_datagrams [] ds slave datagram g j l = g.columns j l
grid_datagrams (s ∷ ss) ds slave datagram g j l =
    let len = row_length s ds in
    grid_datagrams ss (passes s ds).datagrams (λ k. slave (suc k)) (λ k. datagram (suc k)) (rest_grid s ss ds slave datagram g) j (omega (arith, len))

pub grid_law : RingIsGrid
grid_law ss ds slave datagram g = (grid_slaves ss ds slave datagram g, grid_datagrams ss ds slave datagram g)

-- row i of the grid
any_row : (ss : List SlaveState) (ds : List Datagram) (slave : ℕ → ℕ → SlaveState) (datagram : ℕ → ℕ → Datagram) → IsGrid ss ds slave datagram
    → (i : ℕ) (coming : List Datagram) → i < length ss → length coming ≡ length ds → ((j : ℕ) → j < length ds → slice_get coming j ≡ Some (datagram i j))
    → IsRow (slave i 0) coming (slave i) (datagram i) (datagram (i + 1))
any_row ss ds slave datagram g i coming l long come =
    record {
      first = refl;
      columns = λ j k. come j (omega arith);
      slave_after = λ j k. g.slave_after i j l (omega arith);
      datagram_after = λ j k. g.datagram_after i j l (omega arith);
    }

pub row_law : SlaveIsRow
row_law ss ds slave datagram g i coming l long come =
    let row = any_row ss ds slave datagram g i coming l long come in (
      row_slave (slave i 0) coming (slave i) (datagram i) (datagram (i + 1)) row ∙ ap (λ n. slave i n) long,
      λ j k. row_datagrams (slave i 0) coming (slave i) (datagram i) (datagram (i + 1)) row j (omega arith),
    )
