-- A capture grows by a packet.
use Rattle.std.proofs.Common.{ℕ, ◌≡◌, ◌∙◌, sym, ap, List, [], ◌∷◌, ◌++◌, append_assoc, map}
use Rattle.std.proofs.lemmas.List.{append-nil, map-append}
use Rattle.ec_capture.specs.Blocks.{Block, block_bytes, blocks_bytes}
use Rattle.ec_capture.specs.Captures.{blocks_of, interface_block, packet_block, section_block}
use Rattle.ec_capture.specs.Laws.{CapturesGrow}

block_more : (bs : List Block) (b : Block) → blocks_bytes bs ++ block_bytes b ≡ blocks_bytes (bs ++ b ∷ [])
block_more [] b = sym (append-nil (block_bytes b))
block_more (x ∷ bs) b = append_assoc (block_bytes x) (blocks_bytes bs) (block_bytes b) ∙ ap (λ (xs : List ℕ). block_bytes x ++ xs) (block_more bs b)

pub captures_grow : CapturesGrow
captures_grow c s =
    block_more (blocks_of c) (packet_block s)
    ∙ ap (λ (bs : List Block). blocks_bytes (section_block ∷ bs))
    (append_assoc (map interface_block c.names) (map packet_block c.packets) (packet_block s ∷ [])
    ∙ ap (λ (bs : List Block). map interface_block c.names ++ bs) (sym (map-append packet_block c.packets (s ∷ []))))
