use Rattle.std.proofs.Common.{◌≡◌, ◌∙◌, ap, take, length}
use Rattle.std.proofs.lemmas.List.{length-replicate}
use Rattle.ec_bits.specs.Bits.{zeros}
use Rattle.ec_cycle.proofs.SplitDatagrams.{split_room, split_small, split_appended}
use Rattle.ec_cycle.proofs.Runs.{take_zeros}
use Rattle.ec_cycle.proofs.building.append_process.Goals as goal

pub append-requires-then-part : goal.append-requires-then-part
append-requires-then-part c =
    let blank : take c.args.part.now.bytes c.nothing-nothing.result ≡ zeros c.args.part.now.bytes = ap (take c.args.part.now.bytes) c.nothing-nothing.ensures ∙ take_zeros c.args.part.now.bytes 705 (split_small c.args.part.now c.if-part.true c.requires.small) in
    split_room c.args.builder.now c.append.new.builder _ c.args.part.now (take c.args.part.now.bytes c.nothing-nothing.result) c.append.ensures c.requires.size (ap length blank ∙ length-replicate c.args.part.now.bytes 0) c.if-part.true c.requires.small c.requires.room

pub returns-then-part : goal.returns-then-part
returns-then-part c =
    let blank : take c.args.part.now.bytes c.nothing-nothing.result ≡ zeros c.args.part.now.bytes = ap (take c.args.part.now.bytes) c.nothing-nothing.ensures ∙ take_zeros c.args.part.now.bytes 705 (split_small c.args.part.now c.if-part.true c.requires.small) in
    split_appended c.args.builder.now c.append.new.builder c.append-then-part.new.builder c.args.part.now c.args.number c.args.sent.now (take c.args.part.now.bytes c.nothing-nothing.result) c.if-part-eq0.false c.if-part.true blank c.append.ensures c.append-then-part.ensures
