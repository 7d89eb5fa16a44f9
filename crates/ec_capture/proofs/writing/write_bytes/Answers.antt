use Rattle.ec_capture.proofs.AppendedBytes.{appends_kept, part_after}
use Rattle.ec_capture.proofs.writing.write_bytes.Goals as goal
use Rattle.ec_capture.proofs.writing.write_bytes.Goals.{in-Ok, in-Err}

pub loop-preserved : goal.loop-preserved
loop-preserved g c =
    let known = g.W.Write.contents in
    elim c.match-write.branch [
      | in-Ok w ↦ let after = part_after _ (known c.loop.file) (known c.write.new.self) c.args.bytes.now c.loop.written w.in-Ok.count c.loop.invariant.part
          c.loop.invariant.within w.in-Ok.ensures.bound w.in-Ok.ensures.bytes in record {
            part = rw w.written-is after.0;
            within = rw w.written-is after.1;
          }
      | in-Err w ↦ record {
        part = rw w.written-is (appends_kept _ (known c.loop.file) (known c.write.new.self) _ c.loop.invariant.part w.in-Err.ensures.bytes);
        within = rw w.written-is c.loop.invariant.within;
      }
    ]
