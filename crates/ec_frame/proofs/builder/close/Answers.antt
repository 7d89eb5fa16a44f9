use Rattle.std.proofs.Common.{arith}
use Rattle.ec_frame.specs.Built.{built_datagrams}
use Rattle.ec_frame.proofs.BuilderCalls.{last_byte, in_bounds, high_read, closed}
use Rattle.ec_frame.proofs.builder.close.Goals as goal

pub overflow_add-bytes : goal.overflow_add-bytes
overflow_add-bytes c =
    let old = c.args.frame.now.items in
    let l = last_byte old c.args.last (built_datagrams old) c.requires.built c.requires.some in
    let b = in_bounds old c.args.last (built_datagrams old) l in
    let f = c.len-len.ensures in
    record { fits = omega arith }

pub bounds-bytes-last : goal.bounds-bytes-last
bounds-bytes-last c =
    let old = c.args.frame.now.items in
    let l = last_byte old c.args.last (built_datagrams old) c.requires.built c.requires.some in
    let b = in_bounds old c.args.last (built_datagrams old) l in
    rw c.as_mut_slice-bytes.ensures.value b

pub overflow_sub-bytes : goal.overflow_sub-bytes
overflow_sub-bytes c =
    let old = c.args.frame.now.items in
    let l = last_byte old c.args.last (built_datagrams old) c.requires.built c.requires.some in
    let b = high_read old c.args.last (built_datagrams old) l in
    let big = l.big in
    rw (c.as_mut_slice-bytes.ensures.value, b) big

pub bounds-bytes-last-2 : goal.bounds-bytes-last-2
bounds-bytes-last-2 c =
    let old = c.args.frame.now.items in
    let l = last_byte old c.args.last (built_datagrams old) c.requires.built c.requires.some in
    let b = in_bounds old c.args.last (built_datagrams old) l in
    rw c.as_mut_slice-bytes.ensures.value b

pub returns : goal.returns
returns c =
    let old = c.args.frame.now.items in
    let l = last_byte old c.args.last (built_datagrams old) c.requires.built c.requires.some in
    closed old c.args.last (built_datagrams old) l c.as_mut_slice-bytes.result.now c.write_u16.new.buf c.len-len.result c.requires.built c.requires.some c.as_mut_slice-bytes.ensures.value c.len-len.ensures.value c.write_u16.ensures
