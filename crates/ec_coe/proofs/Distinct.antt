-- Lists in which nothing stands twice, read from the front.
use Rattle.std.proofs.Common.{ℕ, ◌+◌, ◌<◌, ◌≡◌, ◌&&◌, not, ap, List, length, drop, get_or, add-one, drop-cons}
use Rattle.ec_coe.specs.Transfers.{contains, distinct}

pub distinct-step : (xs : List ℕ) (i : ℕ) → i < length xs → distinct (drop i xs) ≡ (not (contains (drop (i + 1) xs) (get_or xs i 0)) && distinct (drop (i + 1) xs))
distinct-step xs i h = rw (add-one) (ap distinct (drop-cons xs i 0 h))
