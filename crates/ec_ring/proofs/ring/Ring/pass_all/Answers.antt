use Rattle.std.proofs.Common.{ℕ, ◌≡◌, false, sym, List, length}
use Rattle.std.specs.Prelude.{Result, Ok, Err}
use Rattle.std.specs.Result.{IfOk, is_err}
use Rattle.ec_frame.specs.declared.error.FrameError.{FrameError}
use Rattle.ec_frame.specs.Frame.{Payload, IsFrame}
use Rattle.ec_ring.proofs.ring.Ring.pass_all.Goals as goal

checked : (frame : List ℕ) (r : Result ℕ FrameError) → IfOk r (λ count. (p : Payload) × IsFrame frame p × (count ≡ length p.datagrams)) → is_err r ≡ false → (p : Payload) × IsFrame frame p
checked frame (Ok count) h e = (h.0, h.1)
checked frame (Err fault) h e = absurd cc

pub pass_frame-requires : goal.pass_frame-requires
pass_frame-requires c = checked c.args.frame.now c.check.result c.check.ensures.accepted (sym c.if-is_err.ensures.value)
