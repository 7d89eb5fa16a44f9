use Rattle.std.proofs.Common.{◌≡◌, ℕ, ◌+◌, ◌%◌, length, slice_set, List, ◌++◌, ap, ◌∙◌, lit<}
use Rattle.std.proofs.Math.Nat.{mod-lt}
use Rattle.std.proofs.lemmas.List.{length-set}
use Rattle.ec_frame.specs.declared.datagram.Header.{Header}
use Rattle.ec_frame.specs.Datagram.{Datagram, adp_of, spelling}
use Rattle.ec_frame.specs.Fields.{header_of, with_adp, with_counter}
use Rattle.ec_frame.specs.FieldChanges.{IsDatagram-with_adp, IsDatagram-with_counter}
use Rattle.ec_frame.proofs.Writes.{data_rejoined}
use Rattle.test_frames.proofs.frame.MarkerHandler.handle.Goals as goal

pub returns-clause-datagram : goal.returns-clause-datagram
returns-clause-datagram c = λ more d good e.
    let h : c.read-header.result ≡ header_of more d = c.read-header.ensures more d good e in
    let n : ℕ = (adp_of d + 1) % 65536 in
    let k : ℕ = (d.counter + length d.data_bytes) % 65536 in
    let one : Datagram = with_adp d n in
    let two : Datagram = with_counter one k in
    let one_good = IsDatagram-with_adp d n good (mod-lt (adp_of d + 1) (lit< tt)) in
    let two_good = IsDatagram-with_counter one k one_good (mod-lt (d.counter + length d.data_bytes) (lit< tt)) in
    let adp : c.adp.result ≡ adp_of d = c.adp.ensures ∙ ap (λ (g : Header). g.address % 65536) h in
    let to_one : c.write_adp.new.part ≡ spelling more one = c.write_adp.ensures.written more d good e ∙ ap (λ (x : ℕ). spelling more (with_adp d ((x + 1) % 65536))) adp in
    let counter : (c.read_counter.result + c.read-header.result.data_length) % 65536 ≡ k =
    ap (λ (x : ℕ). (x + c.read-header.result.data_length) % 65536) (c.read_counter.ensures more d good e) ∙ ap (λ (g : Header). (d.counter + g.data_length) % 65536) h in
    let to_two : c.write_counter.new.part ≡ spelling more two = c.write_counter.ensures.written more one one_good to_one ∙ ap (λ (x : ℕ). spelling more (with_counter one x)) counter in
    let body = c.cut_heading-heading.ensures.body more two two_good to_two in
    let content : c.cut_counter-content.result.0.now ≡ d.data_bytes = c.cut_counter-content.ensures.content d.data_bytes k body in
    let marked : c.mark.new.content ≡ slice_set d.data_bytes 0 85 = c.mark.ensures ∙ ap (λ (xs : List ℕ). slice_set xs 0 85) content in
    let first : List ℕ = c.cut_heading-heading.result.0.now in
    let last : List ℕ = c.cut_counter-content.result.1.now in
    ap (λ (xs : List ℕ). first ++ (xs ++ last)) marked
    ∙ data_rejoined first (slice_set d.data_bytes 0 85) last more two (c.cut_heading-heading.ensures.heading more two two_good to_two) (c.cut_counter-content.ensures.counter d.data_bytes k body) (length-set d.data_bytes 0 85)
