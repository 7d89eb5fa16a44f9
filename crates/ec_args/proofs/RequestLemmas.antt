-- What is read of the arguments of a command, and of those that are spelled out.
use Rattle.std.proofs.Common.{◌≡◌, ◌<◌, ◌≤◌, ◌^◌, ◌⊎◌, ℕ, List, [], ◌∷◌, Option, None, Some, inl, inr, Result, Ok, Err, IfNone, IfSome, codes, unwrap_or, true, false, refl, sym, ap, subst, ◌∙◌, arith, slice_index, Bool}
use Rattle.std.specs.Str.Parse.{ExplainsUnsignedError, HasUnsignedDigitsIfOk, IsNumeral, ParsesUnsigned, digits_value, without_leading_plus}
use Rattle.std.specs.declared.num.ParseIntError.{ParseIntError}
use Rattle.std.specs.Fmt.{decimal}
use Rattle.std.specs.Str.{bytes_eq}
use Rattle.std.proofs.lemmas.Slice.Eq.{bytes_eq-Decides}
use Rattle.clap.specs.Lexer.{without_minus}
use Rattle.clap.specs.Matches.{ReadsOne, first_value, one_text}
use Rattle.clap.specs.Walk.{Row, Text, rows_of}
use Rattle.clap.specs.Simple.{App, HasMatchesOf, subcommand_of, subcommand_rows_of}
use Rattle.clap.specs.Faults.{fault_of, is_simple_and_free}
use Rattle.clap.specs.Kinds.{HasKind, IsAmong}
use Rattle.clap.specs.Values.{kind_of}
use Rattle.clap.specs.declared.error.Error.{Error}
use Rattle.clap.specs.declared.parser.matches.ArgMatches.{ArgMatches}
use Rattle.clap.specs.declared.error.kind.ErrorKind.{ErrorKind}
use Rattle.clap.specs.declared.error.kind.ErrorKind.TheVariants.{MissingSubcommand, OutOfMemory}
use Rattle.clap.specs.declared.parser.matches.Found.{Found}
use Rattle.clap.proofs.WalkLemmas.{first_value-rows, one_text-rows}
use Rattle.ec_args.specs.declared.request.Notice.{Notice}
use Rattle.ec_args.specs.declared.request.Notice.TheVariants.{Memory, Help, Usage}
use Rattle.ec_args.specs.declared.request.Arguments.{Arguments}
use Rattle.ec_args.specs.declared.request.Inputs.{Inputs}
use Rattle.ec_args.specs.declared.request.Request.{Request}
use Rattle.ec_args.specs.CommandLine.{ecat}
use Rattle.ec_args.specs.Requests.{Asks, AsksAll, ArePassArguments, ArePlanArguments, Command, Finds, FindsAny, FindsFlag, FindsInputs, FindsNumber, FindsText, IsFault, IsNotice, MeetsAs, MeetsCommand, SegmentArguments, PassIsRead, PlanIsRead, PassOf, PlanOf, DecodeOf, EncodeOf, SimOf, LoopOf, SegmentOf, MasterOf, ScanOf, command_of, first_of_inputs, is_answer, named, second_of_inputs, word_of}
use Rattle.ec_args.specs.Stages.{IsAskedAs, IsNeverAsked}
use Rattle.ec_args.proofs.PlanArguments.{explain-met, explain-no_fault, plan-met, plan-no_fault, plan_rows}
use Rattle.ec_args.proofs.PassArguments.{ecat-is_simple, ecat-simple, frame_row, no-fault, number_argument, slaves_row, subcommand-pass, value_argument}

-- what `parse` gives at an unsigned type of so many bits
abbrev pub NumberGives : ℕ → List ℕ → Result ℕ ParseIntError → Type 0
NumberGives bits bs r = ParsesUnsigned bits 10 bs r × ExplainsUnsignedError 10 bs r × HasUnsignedDigitsIfOk bs r

-- the text is the numeral of this number, which has so many bits
pub record IsNumeralOf (bits : ℕ) (t : List ℕ) (n : ℕ) : Type 0 where
  pub numeral : IsNumeral 10 (without_leading_plus t)
  pub value : digits_value 10 (without_leading_plus t) ≡ n
  pub small : digits_value 10 (without_leading_plus t) < 2 ^ bits

pub number_read : (bits : ℕ) (o : Option (List ℕ)) (r : Option ℕ) (n : ℕ)
    → (o ≡ None → r ≡ None) → ((t : List ℕ) → o ≡ Some t → ReadsOne (NumberGives bits) t r) → r ≡ Some n
    → (t : List ℕ) × (o ≡ Some t) × IsNumeralOf bits t n
number_read bits None r n none value is = let bad : Some n ≡ None = sym is ∙ none refl in cc
number_read bits (Some t) r n none value is =
    let given : NumberGives bits t (Ok n) = rw is at (value t refl) in
    (t, refl, record { numeral = given.0.0.0; value = sym given.0.1; small = given.0.0.1 })

pub no_number_read : (bits : ℕ) (o : Option (List ℕ)) (r : Option ℕ) (t : List ℕ) (n : ℕ)
    → ((t : List ℕ) → o ≡ Some t → ReadsOne (NumberGives bits) t r) → r ≡ None → o ≡ Some t → IsNumeralOf bits t n → ⊥
no_number_read bits o r t n value is some number =
    let given = rw is at (value t some) in
    given.1.0 (number.numeral, number.small)

pub any_none : {X : Type 0} {P : Type 0} (o : Option X) → P → IfNone o P
any_none None p = p
any_none (Some x) p = tt

-- the rows of what `clap` met
abbrev pub rows_in : Option (Text × List Row) → List Row
rows_in None = []
rows_in (Some met) = met.1

pub same_text : (a b : Text) → Some a ≡ Some b → a ≡ b
same_text a b h = ap (λ o. unwrap_or o a) h

-- the names of the commands differ
abbrev pub name_in : Option (Text × List Row) → Text
name_in None = []
name_in (Some met) = met.0

pub other_word : (a b : Text) → bytes_eq a b ≡ false → a ≡ b → ⊥
other_word a b differ same = let bad : true ≡ false = sym ((bytes_eq-Decides a b).1 same) ∙ differ in cc

-- so a word is that of one command
pub is_pass : (command : Command) → word_of command ≡ codes "pass" → (n : ℕ) × (f : Text) × (command ≡ PassOf n f)
is_pass (PassOf n f) called = (n, f, refl)
is_pass (PlanOf h p e) called = absurd (other_word (codes "plan") (codes "pass") refl called)
is_pass (DecodeOf t e) called = absurd (other_word (codes "decode") (codes "pass") refl called)
is_pass EncodeOf called = absurd (other_word (codes "encode") (codes "pass") refl called)
is_pass (SimOf l c e s) called = absurd (other_word (codes "sim") (codes "pass") refl called)
is_pass (LoopOf n c e) called = absurd (other_word (codes "loop") (codes "pass") refl called)
is_pass (SegmentOf a c e) called = absurd (other_word (codes "segment") (codes "pass") refl called)
is_pass (MasterOf t d p c e s) called = absurd (other_word (codes "master") (codes "pass") refl called)
is_pass (ScanOf t d p a k e) called = absurd (other_word (codes "scan") (codes "pass") refl called)

pub is_plan : (command : Command) → word_of command ≡ codes "plan" → (h : Bool) × (p : Option Text) × (e : Bool) × (command ≡ PlanOf h p e)
is_plan (PassOf n f) called = absurd (other_word (codes "pass") (codes "plan") refl called)
is_plan (PlanOf h p e) called = (h, p, e, refl)
is_plan (DecodeOf t e) called = absurd (other_word (codes "decode") (codes "plan") refl called)
is_plan EncodeOf called = absurd (other_word (codes "encode") (codes "plan") refl called)
is_plan (SimOf l c e s) called = absurd (other_word (codes "sim") (codes "plan") refl called)
is_plan (LoopOf n c e) called = absurd (other_word (codes "loop") (codes "plan") refl called)
is_plan (SegmentOf a c e) called = absurd (other_word (codes "segment") (codes "plan") refl called)
is_plan (MasterOf t d p c e s) called = absurd (other_word (codes "master") (codes "plan") refl called)
is_plan (ScanOf t d p a k e) called = absurd (other_word (codes "scan") (codes "plan") refl called)

pub is_loop : (command : Command) → word_of command ≡ codes "loop" → (n : ℕ) × (c : Option Text) × (e : Bool) × (command ≡ LoopOf n c e)
is_loop (PassOf n f) called = absurd (other_word (codes "pass") (codes "loop") refl called)
is_loop (PlanOf h p e) called = absurd (other_word (codes "plan") (codes "loop") refl called)
is_loop (DecodeOf t e) called = absurd (other_word (codes "decode") (codes "loop") refl called)
is_loop EncodeOf called = absurd (other_word (codes "encode") (codes "loop") refl called)
is_loop (SimOf l c e s) called = absurd (other_word (codes "sim") (codes "loop") refl called)
is_loop (LoopOf n c e) called = (n, c, e, refl)
is_loop (SegmentOf a c e) called = absurd (other_word (codes "segment") (codes "loop") refl called)
is_loop (MasterOf t d p c e s) called = absurd (other_word (codes "master") (codes "loop") refl called)
is_loop (ScanOf t d p a k e) called = absurd (other_word (codes "scan") (codes "loop") refl called)

pub is_segment : (command : Command) → word_of command ≡ codes "segment" → (a : SegmentArguments) × (c : Option Text) × (e : Bool) × (command ≡ SegmentOf a c e)
is_segment (PassOf n f) called = absurd (other_word (codes "pass") (codes "segment") refl called)
is_segment (PlanOf h p e) called = absurd (other_word (codes "plan") (codes "segment") refl called)
is_segment (DecodeOf t e) called = absurd (other_word (codes "decode") (codes "segment") refl called)
is_segment EncodeOf called = absurd (other_word (codes "encode") (codes "segment") refl called)
is_segment (SimOf l c e s) called = absurd (other_word (codes "sim") (codes "segment") refl called)
is_segment (LoopOf n c e) called = absurd (other_word (codes "loop") (codes "segment") refl called)
is_segment (SegmentOf a c e) called = (a, c, e, refl)
is_segment (MasterOf t d p c e s) called = absurd (other_word (codes "master") (codes "segment") refl called)
is_segment (ScanOf t d p a k e) called = absurd (other_word (codes "scan") (codes "segment") refl called)

pub is_master : (command : Command) → word_of command ≡ codes "master" → (t : Text) × (d : Option ℕ) × (p : ℕ) × (c : Option Text) × (e : Bool) × (s : Bool) × (command ≡ MasterOf t d p c e s)
is_master (PassOf n f) called = absurd (other_word (codes "pass") (codes "master") refl called)
is_master (PlanOf h p e) called = absurd (other_word (codes "plan") (codes "master") refl called)
is_master (DecodeOf t e) called = absurd (other_word (codes "decode") (codes "master") refl called)
is_master EncodeOf called = absurd (other_word (codes "encode") (codes "master") refl called)
is_master (SimOf l c e s) called = absurd (other_word (codes "sim") (codes "master") refl called)
is_master (LoopOf n c e) called = absurd (other_word (codes "loop") (codes "master") refl called)
is_master (SegmentOf a c e) called = absurd (other_word (codes "segment") (codes "master") refl called)
is_master (MasterOf t d p c e s) called = (t, d, p, c, e, s, refl)
is_master (ScanOf t d p a k e) called = absurd (other_word (codes "scan") (codes "master") refl called)

pub is_scan : (command : Command) → word_of command ≡ codes "scan" → (t : Text) × (d : Option ℕ) × (p : ℕ) × (a : Option Text) × (k : Option Text) × (e : Bool) × (command ≡ ScanOf t d p a k e)
is_scan (PassOf n f) called = absurd (other_word (codes "pass") (codes "scan") refl called)
is_scan (PlanOf h p e) called = absurd (other_word (codes "plan") (codes "scan") refl called)
is_scan (DecodeOf t e) called = absurd (other_word (codes "decode") (codes "scan") refl called)
is_scan EncodeOf called = absurd (other_word (codes "encode") (codes "scan") refl called)
is_scan (SimOf l c e s) called = absurd (other_word (codes "sim") (codes "scan") refl called)
is_scan (LoopOf n c e) called = absurd (other_word (codes "loop") (codes "scan") refl called)
is_scan (SegmentOf a c e) called = absurd (other_word (codes "segment") (codes "scan") refl called)
is_scan (MasterOf t d p c e s) called = absurd (other_word (codes "master") (codes "scan") refl called)
is_scan (ScanOf t d p a k e) called = (t, d, p, a, k, e, refl)

-- what is found for the arguments of a command of this name is what `clap` met
pub asked_one : (name word : Text) (rows : List Row) (request : Request) → name ≡ word → IsAskedAs word rows request → Asks (Some (name, rows)) request
asked_one name word rows request called asks = record {
  rows = rows;
  named = ap (λ n. Some (n, rows)) (called ∙ sym asks.0);
  found = asks.1;
}

pub asked : (r : Option Request) (name word : Text) (rows : List Row) → name ≡ word → IfSome r (IsAskedAs word rows) → IfSome r (Asks (Some (name, rows)))
asked None name word rows called asks = tt
asked (Some request) name word rows called asks = asked_one name word rows request called asks

meets_none : (name word : Text) (rows : List Row) → name ≡ word → IsNeverAsked word rows → MeetsCommand (Some (name, rows)) → ⊥
meets_none name word rows called never met =
    never met.0 (sym (ap name_in met.1.named) ∙ called) (subst (λ (l : List Row). Finds l met.0) (ap rows_in (sym met.1.named)) met.1.found)

pub not_asked : (r : Option Request) (name word : Text) (rows : List Row) → name ≡ word → IfNone r (IsNeverAsked word rows) → IfNone r (MeetsCommand (Some (name, rows)) → ⊥)
not_asked None name word rows called never = meets_none name word rows called never
not_asked (Some request) name word rows called never = tt

-- and a word that is none of theirs is no command
pub no_such_word : (name : Text) (rows : List Row) → (name ≡ codes "pass" → ⊥) → (name ≡ codes "plan" → ⊥) → (name ≡ codes "decode" → ⊥) → (name ≡ codes "encode" → ⊥)
    → (name ≡ codes "sim" → ⊥) → (name ≡ codes "loop" → ⊥) → (name ≡ codes "segment" → ⊥) → (name ≡ codes "master" → ⊥) → (name ≡ codes "scan" → ⊥) → MeetsCommand (Some (name, rows)) → ⊥
no_such_word name rows pass plan decode encode sim loop segment master scan (PassOf n f, met) = pass (ap name_in met.named)
no_such_word name rows pass plan decode encode sim loop segment master scan (PlanOf h p e, met) = plan (ap name_in met.named)
no_such_word name rows pass plan decode encode sim loop segment master scan (DecodeOf t e, met) = decode (ap name_in met.named)
no_such_word name rows pass plan decode encode sim loop segment master scan (EncodeOf, met) = encode (ap name_in met.named)
no_such_word name rows pass plan decode encode sim loop segment master scan (SimOf l c e s, met) = sim (ap name_in met.named)
no_such_word name rows pass plan decode encode sim loop segment master scan (LoopOf n c e, met) = loop (ap name_in met.named)
no_such_word name rows pass plan decode encode sim loop segment master scan (SegmentOf a c e, met) = segment (ap name_in met.named)
no_such_word name rows pass plan decode encode sim loop segment master scan (MasterOf t d p c e s, met) = master (ap name_in met.named)
no_such_word name rows pass plan decode encode sim loop segment master scan (ScanOf t d p a k e, met) = scan (ap name_in met.named)

-- a number that `get_one` read, one that it may leave out, a text that `get_str` read, and a flag
pub finds_number : (found : Found) (id : Text) (bits : ℕ) (r : Option ℕ) (n : ℕ) → (one_text found id ≡ None → r ≡ None)
    → ((t : List ℕ) → one_text found id ≡ Some t → ReadsOne (NumberGives bits) t r) → r ≡ Some n → FindsNumber (rows_of found) id n (2 ^ bits)
finds_number found id bits r n none value is =
    let read = number_read bits (one_text found id) r n none value is in
    record {
      digits = read.0;
      number = sym (one_text-rows found id) ∙ read.1;
      numeral = read.2.numeral;
      value = read.2.value;
      small = subst (λ k. k < 2 ^ bits) read.2.value read.2.small;
    }

finds_no_number : (found : Found) (id : Text) (bits : ℕ) (r : Option ℕ) (n : ℕ)
    → ((t : List ℕ) → one_text found id ≡ Some t → ReadsOne (NumberGives bits) t r) → r ≡ None → FindsNumber (rows_of found) id n (2 ^ bits) → ⊥
finds_no_number found id bits r n value is h =
    let text : one_text found id ≡ Some h.digits = one_text-rows found id ∙ h.number in
    let small : digits_value 10 (without_leading_plus h.digits) < 2 ^ bits = subst (λ k. k < 2 ^ bits) (sym h.value) h.small in
    no_number_read bits (one_text found id) r h.digits n value is text (record { numeral = h.numeral; value = h.value; small = small })

pub finds_any : (found : Found) (id : Text) (bits : ℕ) (r : Option ℕ) → (one_text found id ≡ None → r ≡ None)
    → ((t : List ℕ) → one_text found id ≡ Some t → ReadsOne (NumberGives bits) t r) → FindsAny (rows_of found) id r (2 ^ bits)
finds_any found id bits None none value = λ n. finds_no_number found id bits None n value refl
finds_any found id bits (Some n) none value = finds_number found id bits (Some n) n none value refl

pub finds_text : (found : Found) (id : Text) (text : Option Text) → text ≡ first_value found id → FindsText (rows_of found) id text
finds_text found id text is = sym (first_value-rows found id) ∙ sym is

pub finds_flag : (found : Found) (id : Text) (flag : Bool) → (one_text found id ≡ Some (codes "true") → flag ≡ true) → (one_text found id ≡ Some (codes "false") → flag ≡ false)
    → FindsFlag (rows_of found) id flag
finds_flag found id flag given absent =
    let same = one_text-rows found id in
    record { given = λ is. given (same ∙ is); absent = λ is. absent (same ∙ is) }

-- the files of its inputs
pub finds_inputs : (found : Found) (inputs : Inputs) (first second : Option Text) → first ≡ first_value found (codes "input") → second ≡ first_value found (codes "lines")
    → first_of_inputs inputs ≡ named first → second_of_inputs inputs ≡ named second → FindsInputs (rows_of found) inputs
finds_inputs found inputs first second one two is_one is_two = record {
  for_first = is_one ∙ ap named (one ∙ first_value-rows found (codes "input"));
  for_second = is_two ∙ ap named (two ∙ first_value-rows found (codes "lines"));
}

-- without one of its numbers, or its text, a command isn't asked for
pub no_slaves : (found : Found) (r : Option ℕ) → ((t : List ℕ) → one_text found (codes "slaves") ≡ Some t → ReadsOne (NumberGives 8) t r) → r ≡ None
    → IsNeverAsked (codes "pass") (rows_of found)
no_slaves found r value is command called h =
    let it = is_pass command called in
    finds_no_number found (codes "slaves") 8 r it.0 value is (subst (Finds (rows_of found)) it.2 h).for_slaves

no_text : (found : Found) (id f : Text) → first_value found id ≡ None → FindsText (rows_of found) id (Some f) → ⊥
no_text found id f none h =
    let bad : Some f ≡ None = sym h ∙ (sym (first_value-rows found id) ∙ none) in
    cc

pub no_frame : (found : Found) → first_value found (codes "frame") ≡ None → IsNeverAsked (codes "pass") (rows_of found)
no_frame found none command called h =
    let it = is_pass command called in
    no_text found (codes "frame") it.1 none (subst (Finds (rows_of found)) it.2 h).for_frame

pub no_cycles : (found : Found) (r : Option ℕ) → ((t : List ℕ) → one_text found (codes "cycles") ≡ Some t → ReadsOne (NumberGives 16) t r) → r ≡ None
    → IsNeverAsked (codes "loop") (rows_of found)
no_cycles found r value is command called h =
    let it = is_loop command called in
    finds_no_number found (codes "cycles") 16 r it.0 value is (subst (Finds (rows_of found)) it.3 h).for_cycles

pub no_bind : (found : Found) → first_value found (codes "bind") ≡ None → IsNeverAsked (codes "segment") (rows_of found)
no_bind found none command called h =
    let it = is_segment command called in
    no_text found (codes "bind") it.0.bind none (subst (Finds (rows_of found)) it.3 h).for_bind

pub no_port : (found : Found) (r : Option ℕ) → ((t : List ℕ) → one_text found (codes "port") ≡ Some t → ReadsOne (NumberGives 16) t r) → r ≡ None
    → IsNeverAsked (codes "segment") (rows_of found)
no_port found r value is command called h =
    let it = is_segment command called in
    finds_no_number found (codes "port") 16 r it.0.port value is (subst (Finds (rows_of found)) it.3 h).for_port

pub no_idle : (found : Found) (r : Option ℕ) → ((t : List ℕ) → one_text found (codes "idle") ≡ Some t → ReadsOne (NumberGives 32) t r) → r ≡ None
    → IsNeverAsked (codes "segment") (rows_of found)
no_idle found r value is command called h =
    let it = is_segment command called in
    finds_no_number found (codes "idle") 32 r it.0.idle value is (subst (Finds (rows_of found)) it.3 h).for_idle

pub no_to : (found : Found) → first_value found (codes "to") ≡ None → IsNeverAsked (codes "master") (rows_of found)
no_to found none command called h =
    let it = is_master command called in
    no_text found (codes "to") it.0 none (subst (Finds (rows_of found)) it.6 h).for_to

pub no_patience : (found : Found) (r : Option ℕ) → ((t : List ℕ) → one_text found (codes "patience") ≡ Some t → ReadsOne (NumberGives 16) t r) → r ≡ None
    → IsNeverAsked (codes "master") (rows_of found)
no_patience found r value is command called h =
    let it = is_master command called in
    finds_no_number found (codes "patience") 16 r it.2 value is (subst (Finds (rows_of found)) it.6 h).for_patience

pub scan_no_to : (found : Found) → first_value found (codes "to") ≡ None → IsNeverAsked (codes "scan") (rows_of found)
scan_no_to found none command called h =
    let it = is_scan command called in
    no_text found (codes "to") it.0 none (subst (Finds (rows_of found)) it.6 h).for_to

pub scan_no_patience : (found : Found) (r : Option ℕ) → ((t : List ℕ) → one_text found (codes "patience") ≡ Some t → ReadsOne (NumberGives 16) t r) → r ≡ None
    → IsNeverAsked (codes "scan") (rows_of found)
scan_no_patience found r value is command called h =
    let it = is_scan command called in
    finds_no_number found (codes "patience") 16 r it.2 value is (subst (Finds (rows_of found)) it.6 h).for_patience

-- what `clap` makes of the arguments of `pass`
pub no_fault-pass : (args : List Text) (slaves : ℕ) (frame : Text) → ArePassArguments args slaves frame → fault_of ecat args ≡ []
no_fault-pass args slaves frame w =
    let number = number_argument slaves w.few in
    subst (λ (given : List Text). fault_of ecat given ≡ []) (sym w.spelled)
    (no-fault w.name (decimal slaves) frame number.value number.few (value_argument frame w.no_flag))

pub subcommand_of-pass : (args : List Text) (slaves : ℕ) (frame : Text) → ArePassArguments args slaves frame
    → subcommand_of ecat args ≡ Some (codes "pass", slaves_row (decimal slaves) ∷ frame_row frame ∷ [])
subcommand_of-pass args slaves frame w =
    let number = number_argument slaves w.few in
    subst (λ (given : List Text). subcommand_of ecat given ≡ Some (codes "pass", slaves_row (decimal slaves) ∷ frame_row frame ∷ [])) (sym w.spelled)
    (subcommand-pass w.name (decimal slaves) frame number.value (value_argument frame w.no_flag))

pub finds-pass : (slaves : ℕ) (frame : Text) → slaves ≤ 64 → Finds (slaves_row (decimal slaves) ∷ frame_row frame ∷ []) (PassOf slaves frame)
finds-pass slaves frame few =
    let number = number_argument slaves few in
    record {
      for_slaves = record { digits = without_minus (decimal slaves); number = refl; numeral = number.numeral.0; value = number.reads; small = omega (arith, few) };
      for_frame = refl;
    }

pub meets-pass : (args : List Text) (slaves : ℕ) (frame : Text) → ArePassArguments args slaves frame → MeetsAs (subcommand_of ecat args) (PassOf slaves frame)
meets-pass args slaves frame w = record {
  rows = slaves_row (decimal slaves) ∷ frame_row frame ∷ [];
  named = subcommand_of-pass args slaves frame w;
  found = finds-pass slaves frame w.few;
}

-- and nothing else is met
same_pass : (slaves : ℕ) (frame : Text) → slaves ≤ 64 → (n : ℕ) (f : Text) → Finds (slaves_row (decimal slaves) ∷ frame_row frame ∷ []) (PassOf n f) → PassOf n f ≡ PassOf slaves frame
same_pass slaves frame few n f h =
    let number = number_argument slaves few in
    let digits : h.for_slaves.digits ≡ without_minus (decimal slaves) = same_text h.for_slaves.digits (without_minus (decimal slaves)) (sym h.for_slaves.number) in
    let count : n ≡ slaves = sym h.for_slaves.value ∙ (ap (λ d. digits_value 10 (without_leading_plus d)) digits ∙ number.reads) in
    let text : f ≡ frame = sym (same_text frame f h.for_frame) in
    (λ i. PassOf (count i) (text i))

pub only-pass : (args : List Text) (slaves : ℕ) (frame : Text) → ArePassArguments args slaves frame → (command : Command) → MeetsAs (subcommand_of ecat args) command → command ≡ PassOf slaves frame
only-pass args slaves frame w command met =
    let is = sym met.named ∙ subcommand_of-pass args slaves frame w in
    let it = is_pass command (ap name_in is) in
    let found = subst (λ (l : List Row). Finds l command) (ap rows_in is) met.found in
    it.2 ∙ same_pass slaves frame w.few it.0 it.1 (subst (Finds (slaves_row (decimal slaves) ∷ frame_row frame ∷ [])) it.2 found)

-- nothing is wrong with arguments that `clap` takes
pub none_wrong : (line : App) (args : List Text) → line ≡ ecat → (is_simple_and_free line ≡ true → fault_of line args ≡ []) → fault_of ecat args ≡ []
none_wrong line args is none = subst (λ (l : App). is_simple_and_free l ≡ true → fault_of l args ≡ []) is none ecat-simple

-- what `clap` returns is a fault of these arguments
pub refused_fault : (line : App) (args : List Text) (error : Error) → line ≡ ecat → (is_simple_and_free line ≡ true → HasKind (fault_of line args) error)
    → IsFault args (kind_of error)
refused_fault line args error is kinds =
    let known : HasKind (fault_of ecat args) error = subst (λ (l : App). is_simple_and_free l ≡ true → HasKind (fault_of l args) error) is kinds ecat-simple in
    elim known [ inl memory ↦ inl memory | inr among ↦ inr (inl among) ]

-- what it met is asked for
pub found_asks : (line : App) (args : List Text) (m : ArgMatches) (arguments : Arguments) → line ≡ ecat → HasMatchesOf line args m
    → AsksAll (subcommand_rows_of m) arguments → AsksAll (subcommand_of ecat args) arguments
found_asks line args m arguments is matches asks =
    let same : subcommand_rows_of m ≡ subcommand_of ecat args = (subst (λ (l : App). HasMatchesOf l args m) is matches ecat-is_simple).1 in
    subst (λ (met : Option (Text × List Row)). AsksAll met arguments) same asks

-- and so is what it returns where it met no command
pub missing_fault : (line : App) (args : List Text) (m : ArgMatches) (kind : ErrorKind) → line ≡ ecat → HasMatchesOf line args m
    → (MeetsCommand (subcommand_rows_of m) → ⊥) → (kind ≡ OutOfMemory) ⊎ (kind ≡ MissingSubcommand) → IsFault args kind
missing_fault line args m kind is matches none told =
    let same : subcommand_rows_of m ≡ subcommand_of ecat args = (subst (λ (l : App). HasMatchesOf l args m) is matches ecat-is_simple).1 in
    elim told [ inl memory ↦ inl memory | inr missing ↦ inr (inr (missing, subst (λ (met : Option (Text × List Row)). MeetsCommand met → ⊥) same none)) ]

-- where `clap` finds no fault and a command, an error is want of memory
pub no_other_fault : (args : List Text) (kind : ErrorKind) → fault_of ecat args ≡ [] → MeetsCommand (subcommand_of ecat args) → IsFault args kind → kind ≡ OutOfMemory
no_other_fault args kind none met (inl memory) = memory
no_other_fault args kind none met (inr (inl among)) = absurd (subst (IsAmong kind) none among)
no_other_fault args kind none met (inr (inr missing)) = absurd (missing.1 met)

pub memory_notice : (kind : ErrorKind) (notice : Notice) → kind ≡ OutOfMemory → IsNotice kind notice → notice ≡ Memory
memory_notice kind Memory is told = refl
memory_notice kind (Help text) is told = let bad : false ≡ true = sym (ap is_answer is) ∙ told.says.0 in cc
memory_notice kind (Usage text) is told = absurd (told.says.1 is)

pub pass_is_read : PassIsRead
pass_is_read args slaves frame (Ok arguments) w (none, all) = only-pass args slaves frame w (command_of arguments.request) all.asks
pass_is_read args slaves frame (Err notice) w (kind, fault, told) =
    memory_notice kind notice (no_other_fault args kind (no_fault-pass args slaves frame w) (PassOf slaves frame, meets-pass args slaves frame w) fault) told

-- ---- `ecat plan`

pub subcommand_of-plan : (args : List Text) (explained : Bool) → ArePlanArguments args explained → subcommand_of ecat args ≡ Some (codes "plan", plan_rows explained)
subcommand_of-plan args true w = subst (λ (given : List Text). subcommand_of ecat given ≡ Some (codes "plan", plan_rows true)) (sym w.spelled) (explain-met w.name)
subcommand_of-plan args false w = subst (λ (given : List Text). subcommand_of ecat given ≡ Some (codes "plan", plan_rows false)) (sym w.spelled) (plan-met w.name)

pub no_fault-plan : (args : List Text) (explained : Bool) → ArePlanArguments args explained → fault_of ecat args ≡ []
no_fault-plan args true w = subst (λ (given : List Text). fault_of ecat given ≡ []) (sym w.spelled) (explain-no_fault w.name)
no_fault-plan args false w = subst (λ (given : List Text). fault_of ecat given ≡ []) (sym w.spelled) (plan-no_fault w.name)

-- "true" isn't "false"
other_flag : {P : Type 0} → Some (codes "true") ≡ Some (codes "false") → P
other_flag is = let bad : 116 ≡ 102 = ap (λ (t : Text). slice_index t 0) (same_text (codes "true") (codes "false") is) in absurd (omega (arith, bad))

finds_no_header : (explained : Bool) → FindsFlag (plan_rows explained) (codes "header") false
finds_no_header true = record { given = λ found. other_flag (sym found); absent = λ found. refl }
finds_no_header false = record { given = λ found. other_flag (sym found); absent = λ found. refl }

no_prefix : (explained : Bool) → FindsText (plan_rows explained) (codes "prefix") None
no_prefix true = refl
no_prefix false = refl

finds_explain : (explained : Bool) → FindsFlag (plan_rows explained) (codes "explain") explained
finds_explain true = record { given = λ found. refl; absent = λ found. other_flag found }
finds_explain false = record { given = λ found. other_flag (sym found); absent = λ found. refl }

finds-plan : (explained : Bool) → Finds (plan_rows explained) (PlanOf false None explained)
finds-plan explained = record { for_header = finds_no_header explained; for_prefix = no_prefix explained; for_explain = finds_explain explained }

pub meets-plan : (args : List Text) (explained : Bool) → ArePlanArguments args explained → MeetsAs (subcommand_of ecat args) (PlanOf false None explained)
meets-plan args explained w = record {
  rows = plan_rows explained;
  named = subcommand_of-plan args explained w;
  found = finds-plan explained;
}

no_header : (explained h : Bool) → FindsFlag (plan_rows explained) (codes "header") h → h ≡ false
no_header true h flag = flag.absent refl
no_header false h flag = flag.absent refl

same_flag : (explained e : Bool) → FindsFlag (plan_rows explained) (codes "explain") e → e ≡ explained
same_flag true e flag = flag.given refl
same_flag false e flag = flag.absent refl

same_plan : (explained h e : Bool) (p : Option Text) → Finds (plan_rows explained) (PlanOf h p e) → PlanOf h p e ≡ PlanOf false None explained
same_plan explained h e p found =
    let header = no_header explained h found.for_header in
    let prefix : p ≡ None = sym found.for_prefix ∙ no_prefix explained in
    let flag = same_flag explained e found.for_explain in
    (λ i. PlanOf (header i) (prefix i) (flag i))

pub only-plan : (args : List Text) (explained : Bool) → ArePlanArguments args explained → (command : Command) → MeetsAs (subcommand_of ecat args) command → command ≡ PlanOf false None explained
only-plan args explained w command met =
    let is = sym met.named ∙ subcommand_of-plan args explained w in
    let it = is_plan command (ap name_in is) in
    let found = subst (λ (l : List Row). Finds l command) (ap rows_in is) met.found in
    it.3 ∙ same_plan explained it.0 it.2 it.1 (subst (Finds (plan_rows explained)) it.3 found)

pub plan_is_read : PlanIsRead
plan_is_read args explained (Ok arguments) w (none, all) = only-plan args explained w (command_of arguments.request) all.asks
plan_is_read args explained (Err notice) w (kind, fault, told) =
    memory_notice kind notice (no_other_fault args kind (no_fault-plan args explained w) (PlanOf false None explained, meets-plan args explained w) fault) told
