-- The frame of an action, and the datagram in it.
use Rattle.std.proofs.Common.{◌≡◌, ℕ, ◌%◌, List, [], ◌∷◌, refl, sym, ap, ◌∙◌}
use Rattle.ec_frame.specs.declared.command.Command.{Command}
use Rattle.ec_frame.specs.declared.command.Command.TheVariants.{Nop}
use Rattle.ec_frame.specs.Building.{new_datagram}
use Rattle.ec_frame.specs.Datagram.{Datagram}
use Rattle.ec_start.specs.declared.action.Action.{Action}
use Rattle.ec_start.specs.declared.action.Action.TheVariants.{CountSlaves, AskInit, AwaitInit, ClearFmmus, ClearManagers, ClearStations, NameSlave, AskWord, AwaitWord, SetManager, SetFmmu, AskState, AwaitState, SendRequest, AwaitReply, AwaitFreeReply, AwaitInitState, ClearAllFmmus, ClearAllManagers, AssignSii, ClearSiiError, AwaitCleanInit, FeedPart}
use Rattle.ec_frame.specs.Names.{name_bytes, name_datagram}
use Rattle.ec_start.specs.Actions.{datagram_of, frame_of}

-- of a datagram its index alone depends on the number
pub datagram_is : (a : Action) (number : ℕ) → datagram_of a number ≡ new_datagram (datagram_of a 0).command (number % 256) (datagram_of a 0).address (datagram_of a 0).data_bytes
datagram_is CountSlaves number = refl
datagram_is AskInit number = refl
datagram_is AwaitInit number = refl
datagram_is ClearFmmus number = refl
datagram_is ClearManagers number = refl
datagram_is ClearStations number = refl
datagram_is (NameSlave i) number = refl
datagram_is (AskWord i which) number = refl
datagram_is (AwaitWord i which) number = refl
datagram_is (SetManager i k m r) number = refl
datagram_is (SetFmmu i k f start) number = refl
datagram_is (AskState i state) number = refl
datagram_is (AwaitState i state) number = refl
datagram_is (SendRequest i before b r) number = refl
datagram_is (AwaitReply i b r) number = refl
datagram_is (AwaitFreeReply i b r) number = refl
datagram_is AwaitInitState number = refl
datagram_is ClearAllFmmus number = refl
datagram_is ClearAllManagers number = refl
datagram_is (AssignSii access) number = refl
datagram_is ClearSiiError number = refl
datagram_is (AwaitCleanInit i) number = refl
datagram_is (FeedPart f) number = refl

-- both datagrams of the frame of an action
pub framed : (a : Action) (number index : ℕ) (name bytes : List ℕ) (command : Command) (address : ℕ) → index ≡ number % 256
    → name ≡ name_bytes number 0 → command ≡ (datagram_of a 0).command → address ≡ (datagram_of a 0).address → bytes ≡ (datagram_of a 0).data_bytes
    → new_datagram Nop index 0 name ∷ new_datagram command index address bytes ∷ [] ≡ frame_of a number
framed a number index name bytes command address indexed named commanded addressed told =
    let first : Datagram = name_datagram number 0 in
    ap (λ (n : ℕ). new_datagram Nop n 0 name ∷ new_datagram command n address bytes ∷ []) indexed
    ∙ (ap (λ (xs : List ℕ). new_datagram Nop (number % 256) 0 xs ∷ new_datagram command (number % 256) address bytes ∷ []) named
    ∙ (ap (λ (c : Command). first ∷ new_datagram c (number % 256) address bytes ∷ []) commanded
    ∙ (ap (λ (n : ℕ). first ∷ new_datagram (datagram_of a 0).command (number % 256) n bytes ∷ []) addressed
    ∙ (ap (λ (xs : List ℕ). first ∷ new_datagram (datagram_of a 0).command (number % 256) (datagram_of a 0).address xs ∷ []) told
    ∙ ap (λ (d : Datagram). first ∷ d ∷ []) (sym (datagram_is a number))))))
