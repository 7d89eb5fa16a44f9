-- A capture that is being written.
use Rattle.std.specs.Prelude.{ℕ, ◌≡◌, List, map, Bool, true, false, Option}
use Rattle.std.specs.Io.KnownBytes.{Appends}
use Rattle.ec_capture.specs.Blocks.{blocks_bytes}
use Rattle.ec_capture.specs.Captures.{Captured, packet_block}
use Rattle.ec_capture.specs.Writing.{AppendsPart}

-- What is known of it: the bytes of its file, how many interfaces it has, and whether it is whole. If it is whole, all of it is written
-- and handed on.
pub record Recording : Type 0 where
  pub file : Option (List ℕ)
  pub interfaces : ℕ
  pub is_whole : Bool

-- the bytes of packets, one after the other
abbrev pub packets_bytes : List Captured → List ℕ
packets_bytes ss = blocks_bytes (map packet_block ss)

-- These packets were noted, one after the other: they stand behind what was there. Or the capture was cut short, and a first part
-- of them stands there. A capture that was cut short before stays as it is.
pub record Notes (ss : List Captured) (old new : Recording) : Type 0 where
  pub interfaces : new.interfaces ≡ old.interfaces
  pub all : new.is_whole ≡ true → Appends old.file new.file (packets_bytes ss)
  pub part : new.is_whole ≡ false → AppendsPart old.file new.file (packets_bytes ss)
  pub whole : new.is_whole ≡ true → old.is_whole ≡ true
  pub cut : old.is_whole ≡ false → new ≡ old
