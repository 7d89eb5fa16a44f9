use Rattle.std.proofs.Common.{◌∙◌, sym}
use Rattle.ec_decode.specs.Holding.{datagrams_held}
use Rattle.ec_decode.specs.Stating.{datagram_of}
use Rattle.ec_decode.proofs.ReaderFields.{finish_all, short_data}
use Rattle.ec_decode.proofs.begun.Begun.finish.Goals as goal

pub returns : goal.returns
returns c =
    finish_all c.payload_of.result c.args.self.now (datagram_of c.args.stated.now) c.len.result c.len-2.result c.bit_if.result c.as_slice.result.now c.as_slice-2.result.now c.as_slice-rest.result.now
    c.requires.held c.in_ok-last.ensures.good c.requires.fits c.as_slice.ensures.value (c.as_slice-2.ensures.value ∙ c.in_ok-last.ensures.value) c.as_slice-rest.ensures.value
    (c.len.ensures ∙ sym c.as_slice.ensures.len) (c.len-2.ensures ∙ sym c.as_slice-2.ensures.len) c.bit_if.ensures c.payload_of.ensures.parts c.payload_of.ensures.bytes

pub spell-requires-clause-length : goal.spell-requires-clause-length
spell-requires-clause-length c = short_data (datagrams_held c.args.self.now.area.items) (datagram_of c.args.stated.now) c.requires.fits
