-- A master that reads the image of a full slave finds its type.
use Rattle.std.proofs.Common.{ℕ, ◌-◌, ◌<◌, ◌^◌, ◌≡◌, List, [], ◌∷◌, ◌++◌, length, All, Bool, true, false, Option, Some, None, slice_index_or, refl, sym, ap, subst, ◌∙◌, arith}
use Rattle.std.specs.Option.{option_map}
use Rattle.ec_device.specs.declared.slave_type.Pdo.{Pdo}
use Rattle.ec_device.specs.declared.slave_type.Mailbox.{Mailbox}
use Rattle.ec_device.specs.declared.slave_type.Face.{Face}
use Rattle.ec_device.specs.Types.{SlaveKind, IsPdo, ArePdos}
use Rattle.ec_sii.specs.declared.image.SiiImage.{SiiImage}
use Rattle.ec_sii.specs.Categories.{for_outputs, for_inputs, coe_details, general_flags, pair, categories_of}
use Rattle.ec_sii.specs.SiiImage.{image_of}
use Rattle.ec_sii.specs.Reading.{area_read, bytes_of, strings_read, managers_read, ReadPdos, pdos_read}
use Rattle.ec_sii.specs.Laws.{FitsEntry, FitsKind, found_pdos, ReadsType, FullTypesAreReadBack}
use Rattle.ec_sii.proofs.Walking.{some_words, Found, found}
use Rattle.ec_sii.proofs.ReadBack.{HasBytes, strings-back, managers-back, pdos-back}
use Rattle.ec_sii.proofs.Area.{categories_law, area-is}
use Rattle.ec_sii.proofs.Fits.{categories-few}

general-back : (m : Option Mailbox) (lrw : Bool) → bytes_of (pair 0 0 ∷ pair 1 1 ∷ pair 0 (coe_details m) ∷ 0 ∷ 0 ∷ pair 0 (general_flags lrw) ∷ 0 ∷ 0 ∷ 17 ∷ 0 ∷ 0 ∷ 0 ∷ 0 ∷ 0 ∷ 0 ∷ 0 ∷ [])
    ≡ 0 ∷ 0 ∷ 1 ∷ 1 ∷ 0 ∷ coe_details m ∷ 0 ∷ 0 ∷ 0 ∷ 0 ∷ 0 ∷ general_flags lrw ∷ 0 ∷ 0 ∷ 0 ∷ 0 ∷ 17 ∷ 0 ∷ 0 ∷ 0 ∷ 0 ∷ 0 ∷ 0 ∷ 0 ∷ 0 ∷ 0 ∷ 0 ∷ 0 ∷ 0 ∷ 0 ∷ 0 ∷ 0 ∷ []
general-back None true = refl
general-back None false = refl
general-back (Some m) true = refl
general-back (Some m) false = refl

fmmus-back : (os is : List Pdo) → bytes_of (pair (for_outputs os) (for_inputs is) ∷ 0 ∷ []) ≡ for_outputs os ∷ for_inputs is ∷ 0 ∷ 0 ∷ []
fmmus-back [] [] = refl
fmmus-back [] (i ∷ is) = refl
fmmus-back (o ∷ os) [] = refl
fmmus-back (o ∷ os) (i ∷ is) = refl

direction-back : (manager first : ℕ) (ps : List Pdo) → ArePdos first ps → All (λ p. All FitsEntry p.entries) ps → option_map pdos_read (some_words manager ps) ≡ found_pdos manager ps
direction-back manager first [] limits fits = refl
direction-back manager first (p ∷ ps) limits fits =
    let few : All (λ q. length q.entries < 256) (p ∷ ps) = λ k d below.
    let one : IsPdo first (slice_index_or (p ∷ ps) k d) = limits.each k d below in omega (arith, one.few) in
    let bytes : All (λ q. All HasBytes q.entries) (p ∷ ps) = λ k d below i e inside.
    let entry : FitsEntry (slice_index_or (slice_index_or (p ∷ ps) k d).entries i e) = fits k d below i e inside in entry.subindex in
    ap (λ (r : ReadPdos). Some r.pdos) (pdos-back manager (p ∷ ps) few bytes)

reads : (kind : SlaveKind) (face : Face) (ys : List ℕ) → FitsKind kind → kind.face ≡ Some face → ReadsType kind face.name (categories_of kind face.name ++ 0xFFFF ∷ ys)
reads kind face ys h e =
    let all : Found kind face.name (categories_of kind face.name ++ 0xFFFF ∷ ys) = found kind face.name ys in
    record {
      strings = ap (option_map strings_read) all.strings ∙ ap (λ r. Some r) (strings-back face.name (h.letters face e));
      general = ap (option_map bytes_of) all.general ∙ ap (λ r. Some r) (general-back kind.mailbox kind.lrw);
      fmmus = ap (option_map bytes_of) all.fmmus ∙ ap (λ r. Some r) (fmmus-back kind.outputs kind.inputs);
      managers = ap (option_map managers_read) all.managers ∙ ap (λ r. Some r) (managers-back kind);
      inputs = ap (option_map pdos_read) all.inputs ∙ direction-back 3 0x1A00 kind.inputs h.limits.inputs h.inputs;
      outputs = ap (option_map pdos_read) all.outputs ∙ direction-back 2 0x1600 kind.outputs h.limits.outputs h.outputs;
    }

pub types_law : FullTypesAreReadBack
types_law kind identity face h e =
    let image : SiiImage = image_of kind identity in
    let shown : image.categories ≡ Some (categories_of kind face.name) = ap (option_map (λ (f : Face). categories_of kind f.name)) e in
    let few : length (categories_of kind face.name) < 2 ^ 22 - 2 ^ 7 = categories-few kind face h e in
    let area : (ys : List ℕ) × (area_read image ≡ categories_of kind face.name ++ 0xFFFF ∷ ys) = area-is image (categories_of kind face.name) shown few in
    (categories_law image (categories_of kind face.name) shown few, subst (ReadsType kind face.name) (sym area.1) (reads kind face area.0 h e))
