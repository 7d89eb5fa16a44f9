use Rattle.std.proofs.Common.{◌≡◌, ◌∷◌, true, Some, None, is_some, [], get_or, length-set, string_bytes, refl, sym, ap, ◌∙◌, arith}
use Rattle.std.proofs.lemmas.Grind.{common_steps}
use Rattle.std.proofs.lemmas.List.{get_or_default}
use Rattle.std.specs.Option.{option_or}
use Rattle.toml.specs.View.{view, members_view}
use Rattle.toml.proofs.Views.{Entry}
use Rattle.ec_table.specs.Fields.{full_format, viewed}
use Rattle.ec_table.specs.Keys.{names_of, place_in}
use Rattle.ec_table.proofs.KeyPlaces.{keys_at_end, keys_not, known_place, no_place, one_more, place_inside, place_short, values_at_end}
use Rattle.ec_table.proofs.values.values_of.Goals as goal

pub bounds-found-place : goal.bounds-found-place
bounds-found-place c =
    let placed : place_in c.args.shape c.args.format (string_bytes c.in-Some.key.now) ≡ Some c.in_ok-place.place = sym (rw c.as_str.ensures.value at c.in_ok-place.ensures) in
    let short = place_short c.args.shape c.args.format (string_bytes c.in-Some.key.now) c.in_ok-place.place placed in
    let (_, long, _) = c.loop-key.invariant in
    omega (arith, short, long)

pub offset_bounds-found-place : goal.offset_bounds-found-place
offset_bounds-found-place c =
    let placed : place_in c.args.shape c.args.format (string_bytes c.in-Some.key.now) ≡ Some c.in_ok-place.place = sym (rw c.as_str.ensures.value at c.in_ok-place.ensures) in
    let short = place_short c.args.shape c.args.format (string_bytes c.in-Some.key.now) c.in_ok-place.place placed in
    let (_, long, _) = c.loop-key.invariant in
    omega (arith, short, long)

pub bounds-found-place-in-loop-key : goal.bounds-found-place-in-loop-key
bounds-found-place-in-loop-key c =
    let placed : place_in c.args.shape c.args.format (string_bytes c.in-Some.key.now) ≡ Some c.in_ok-place.place = sym (rw c.as_str.ensures.value at c.in_ok-place.ensures) in
    let short = place_short c.args.shape c.args.format (string_bytes c.in-Some.key.now) c.in_ok-place.place placed in
    let (_, long, _) = c.loop-key.invariant in
    omega (arith, short, long)

pub offset_bounds-found-place-in-loop-key : goal.offset_bounds-found-place-in-loop-key
offset_bounds-found-place-in-loop-key c =
    let placed : place_in c.args.shape c.args.format (string_bytes c.in-Some.key.now) ≡ Some c.in_ok-place.place = sym (rw c.as_str.ensures.value at c.in_ok-place.ensures) in
    let short = place_short c.args.shape c.args.format (string_bytes c.in-Some.key.now) c.in_ok-place.place placed in
    let (_, long, _) = c.loop-key.invariant in
    omega (arith, short, long)

pub loop-key-preserved : goal.loop-key-preserved
loop-key-preserved c =
    let (keys, long, finds) = c.loop-key.invariant in
    let ks = names_of c.args.shape full_format in
    let e : Entry = (c.in-Some.key.now, c.in-Some.value.now) in
    let iter : c.loop-key.key-iterator ≡ e ∷ c.next.new.self = grind (arith, common_steps) in
    let placed : place_in c.args.shape c.args.format (string_bytes e.0) ≡ Some c.in_ok-place.place = sym (rw c.as_str.ensures.value at c.in_ok-place.ensures) in
    let known = known_place c.args.shape c.args.format (string_bytes e.0) c.in_ok-place.place placed in
    let inside = place_inside c.args.shape (string_bytes e.0) c.in_ok-place.place known.1 in
    let put : viewed c.first.result ≡ option_or (viewed (get_or c.loop-key.found c.in_ok-place.place None)) (Some (view e.1)) = rw (get_or_default c.loop-key.found c.in_ok-place.place None c.index-found-place.result (omega (arith, inside, long))) c.first.ensures in (
      sym (rw (iter, known.0) refl) ∙ keys,
      length-set c.loop-key.found c.in_ok-place.place c.first.result ∙ long,
      one_more c.loop-key.found ks (string_bytes e.0) (view e.1) c.in_ok-place.place c.first.result known.1 (omega (arith, inside, long)) put (members_view c.next.new.self) (members_view c.args.members.now.entries) (rw iter at finds),
    )

pub returns-in_err-place-clause-keys : goal.returns-in_err-place-clause-keys
returns-in_err-place-clause-keys c =
    let (keys, long, finds) = c.loop-key.invariant in
    let e : Entry = (c.in-Some.key.now, c.in-Some.value.now) in
    let iter : c.loop-key.key-iterator ≡ e ∷ c.next.new.self = grind (arith, common_steps) in
    let none : place_in c.args.shape c.args.format (string_bytes e.0) ≡ None = sym (rw c.as_str.ensures.value at c.in_err-place.ensures) in
    ap is_some c.from_residual.ensures
    ∙ keys_not c.args.shape c.args.format (members_view c.args.members.now.entries) (members_view c.next.new.self) (string_bytes e.0) (view e.1) (rw iter at keys) (no_place c.args.shape c.args.format (string_bytes e.0) none)

pub returns-then-has_needed-clause-keys : goal.returns-then-has_needed-clause-keys
returns-then-has_needed-clause-keys c =
    let (keys, long, finds) = c.loop-key.invariant in
    let over : c.loop-key.key-iterator ≡ [] = grind (arith, common_steps) in
    sym c.if-has_needed.true ∙ c.has_needed.ensures ∙ keys_at_end c.args.shape c.args.format (members_view c.args.members.now.entries) c.keys.result.now (rw over at keys) c.keys.ensures

pub returns-then-has_needed-clause-values : goal.returns-then-has_needed-clause-values
returns-then-has_needed-clause-values c =
    let (keys, long, finds) = c.loop-key.invariant in
    let over : c.loop-key.key-iterator ≡ [] = grind (arith, common_steps) in
    values_at_end c.args.shape c.loop-key.found (members_view c.args.members.now.entries) (rw over at finds)

pub returns-else-has_needed-clause-keys : goal.returns-else-has_needed-clause-keys
returns-else-has_needed-clause-keys c =
    let (keys, long, finds) = c.loop-key.invariant in
    let over : c.loop-key.key-iterator ≡ [] = grind (arith, common_steps) in
    sym c.if-has_needed.false ∙ c.has_needed.ensures ∙ keys_at_end c.args.shape c.args.format (members_view c.args.members.now.entries) c.keys.result.now (rw over at keys) c.keys.ensures
