-- What the words of a single action stand for, by their form (this project's profile).
use Rattle.std.specs.Prelude.{ℕ, List, Option, Some, None}
use Rattle.ec_table.specs.Contents.{Contents}
use Rattle.ec_script.specs.declared.expectation.Expectation.{Expectation}
use Rattle.ec_script.specs.declared.expectation.Expectation.TheVariants as expects
use Rattle.ec_script.specs.declared.forms.ExpectForm.{ExpectForm}
use Rattle.ec_script.specs.declared.forms.ExpectForm.TheVariants as expected
use Rattle.ec_script.specs.declared.forms.Form.{Form}
use Rattle.ec_script.specs.declared.forms.Form.TheVariants as form
use Rattle.ec_script.specs.declared.line.LineAction.{LineAction}
use Rattle.ec_script.specs.declared.line.LineAction.TheVariants.{Start, Set, Begin, Pass, Lose, LosePart, Return, Close, Serve, Put, Get, Fail, Reset, Input, Never, Expect, Ready, Cycle, Show, ShowVariable, Output, Report, States, Stop, Served}
use Rattle.ec_script.specs.declared.value_test.ValueTest.{ValueTest}
use Rattle.ec_script.specs.declared.value.WrittenValue.{WrittenValue}
use Rattle.ec_script.specs.declared.value.WrittenValue.TheVariants.{Number, Outside}
use Rattle.ec_script.specs.Forms.{form_of}
use Rattle.ec_script.specs.Operands.{◌>>=◌, assignment_at, bounds_at, byte_at, code_at, held_at, mask_at, number_at, slave_at, state_at, variable_at}
use Rattle.ec_script.specs.Tests.{between_test, compared_test, masked_test}
use Rattle.ec_script.specs.Words.{Text}

-- ---- a variable and a value

abbrev pub set_action : ℕ × WrittenValue → LineAction
set_action (v, Number x) = Set v x
set_action (v, Outside) = Never v

abbrev pub input_action : ℕ × WrittenValue → LineAction
input_action (v, Number x) = Input v x
input_action (v, Outside) = Never v

abbrev pub value_expected : ℕ × WrittenValue → Expectation
value_expected (v, Number x) = expects.Is v x
value_expected (v, Outside) = expects.Never v

-- a test with a number that the variable's bits can't hold is none, and never holds
abbrev pub test_expected : ℕ → Option ValueTest → Expectation
test_expected v None = expects.Never v
test_expected v (Some test) = expects.Holds v test

-- ---- forms

-- what is expected; word 0 is `expect`
abbrev pub expectation_of_form : Contents → List Text → ExpectForm → Option Expectation
expectation_of_form t words (expected.Unit taken) = number_at words 2 >>= (λ u. Some (expects.Unit u taken))
expectation_of_form t words (expected.Units taken) = Some (expects.Units taken)
expectation_of_form t words expected.Ready = Some expects.Ready
expectation_of_form t words expected.Refusal = number_at words 2 >>= (λ n. Some (expects.Failed (Some n)))
expectation_of_form t words expected.Failed = Some (expects.Failed None)
expectation_of_form t words expected.Code = slave_at t words 2 >>= (λ s. state_at words 3 >>= (λ a. code_at words 4 >>= (λ c. Some (expects.State s a (Some c)))))
expectation_of_form t words expected.State = slave_at t words 2 >>= (λ s. state_at words 3 >>= (λ a. Some (expects.State s a None)))
expectation_of_form t words (expected.Compared c) = held_at t words 1 3 >>= (λ a. Some (test_expected a.0 (compared_test c a.1)))
expectation_of_form t words (expected.Masked is) = mask_at t words 1 3 >>= (λ m. mask_at t words 1 5 >>= (λ a. Some (test_expected m.0 (masked_test is m.1 a.1))))
expectation_of_form t words expected.Range = bounds_at t words 1 2 >>= (λ b. Some (test_expected b.0 (between_test b.1.0 b.1.1)))
expectation_of_form t words expected.Value = assignment_at t words 1 2 >>= (λ a. Some (value_expected a))

-- word 0 is the verb; `pass`, `lose` and `return` have the slot of a frame, `put` and `get` a slave and a place among its bytes
abbrev pub action_of_form : Contents → List Text → Form → Option LineAction
action_of_form t words form.Start = Some Start
action_of_form t words form.Set = assignment_at t words 1 2 >>= (λ a. Some (set_action a))
action_of_form t words form.Begin = Some Begin
action_of_form t words form.Pass = number_at words 1 >>= (λ k. Some (Pass k))
action_of_form t words form.LosePart = number_at words 1 >>= (λ n. number_at words 3 >>= (λ k. Some (LosePart n k)))
action_of_form t words form.Lose = number_at words 1 >>= (λ k. Some (Lose k))
action_of_form t words form.Return = number_at words 1 >>= (λ k. Some (Return k))
action_of_form t words form.Close = Some Close
action_of_form t words form.Serve = slave_at t words 1 >>= (λ s. Some (Serve s))
action_of_form t words form.Put = slave_at t words 1 >>= (λ s. number_at words 2 >>= (λ i. byte_at words 3 >>= (λ x. Some (Put s i x))))
action_of_form t words form.Get = slave_at t words 1 >>= (λ s. number_at words 2 >>= (λ i. Some (Get s i)))
action_of_form t words form.Fail = slave_at t words 1 >>= (λ s. Some (Fail s))
action_of_form t words form.Reset = slave_at t words 1 >>= (λ s. Some (Reset s))
action_of_form t words form.Input = assignment_at t words 1 2 >>= (λ a. Some (input_action a))
action_of_form t words form.Output = variable_at t words 1 >>= (λ v. Some (Output v))
action_of_form t words form.Ready = Some Ready
action_of_form t words form.Cycle = Some Cycle
action_of_form t words form.ShowVariable = variable_at t words 1 >>= (λ v. Some (ShowVariable v))
action_of_form t words form.Show = Some Show
action_of_form t words form.Report = Some Report
action_of_form t words form.States = Some States
action_of_form t words form.Stop = Some Stop
action_of_form t words form.Served = Some Served
action_of_form t words (form.Expect e) = expectation_of_form t words e >>= (λ x. Some (Expect x))

-- ---- words

-- the form that they fit, with each word read as that form says
abbrev pub action_of_words : Contents → List Text → Option LineAction
action_of_words t words = form_of words >>= action_of_form t words
