-- The two words that an SII shows after a read are found in the ten bytes that a master reads.
use Rattle.std.proofs.Common.{ℕ, ◌+◌, ◌*◌, ◌≡◌, ◌∙◌, None, Some, if◌then◌else◌, ap}
use Rattle.ec_regs.specs.Memory.{sii_control}
use Rattle.ec_regs.specs.Words.{sii_error}
use Rattle.ec_sii.specs.declared.image.SiiImage.{SiiImage}
use Rattle.ec_sii.specs.Laws.{ReadsShowWords, ShowsWords, read_command}
use Rattle.ec_sii.specs.Port.{Sii, command_address, sii_byte, stepped, written}
use Rattle.ec_sii.specs.SiiImage.{word_at as word_of_image}
use Rattle.ec_start.specs.Verdicts.{word_at}
use Rattle.ec_scan.specs.Showing.{ReadsFindWords, port_bytes, words_in}

words_found : (q : Sii) (image : SiiImage) (address : ℕ) → ShowsWords q image address
    → words_in (port_bytes q) ≡ Some (word_of_image image address, word_of_image image (address + 1))
words_found q image address w =
    let idle : word_at (port_bytes q) 0 ≡ 0 = ap (λ (x : ℕ). x + 256 * sii_byte q command_address) w.control ∙ ap (λ (y : ℕ). 0 + 256 * y) w.status in
    ap (λ (x : ℕ). if sii_error x then None else Some (word_at (port_bytes q) 6, word_at (port_bytes q) 8)) idle
    ∙ ap (λ (x : ℕ). Some (x, word_at (port_bytes q) 8)) w.low
    ∙ ap (λ (y : ℕ). Some (word_of_image image address, y)) w.high

pub words_law : ReadsShowWords → ReadsFindWords
words_law shows p address idle within fits low high =
    words_found (stepped (written p sii_control (read_command address))) p.image address (shows p address idle within fits low high)
