-- Arguments that can't be right, whatever the input is (this project's profile).
use Rattle.std.specs.Prelude.{◌≡◌, ℕ, List, [], ◌∷◌, ◌++◌, Option, None, Some, codes}
use Rattle.std.specs.Net.Grammar.{IsIpv4Text, IsSocketV4Text}
use Rattle.std.specs.declared.net.ipv4_addr.Ipv4Addr.{Ipv4Addr}
use Rattle.std.specs.declared.net.socket_addr.SocketAddrV4.{SocketAddrV4}
use Rattle.ec_args.specs.Requests.{Command, MasterOf, ScanOf, SegmentOf}
use Rattle.ec_app.specs.declared.wrong.Wrong.{Wrong}
use Rattle.ec_app.specs.declared.wrong.Wrong.TheVariants.{Bind, Descriptor, To}

-- the text is an IPv4 address
abbrev pub IsAddress : List ℕ → Type 0
IsAddress text = (a : Ipv4Addr) × IsIpv4Text text a

-- the text is an IPv4 address with a port
abbrev pub IsPeer : List ℕ → Type 0
IsPeer text = (a : SocketAddrV4) × IsSocketV4Text text a

-- Of a descriptor, and of what it replaces. Which descriptors are sockets, the system knows.
abbrev pub IsWrongAt : Option ℕ → Type 0 → (instead wrong : Wrong) → Type 0
IsWrongAt None Right instead wrong = (wrong ≡ instead) × (Right → ⊥)
IsWrongAt (Some n) Right instead wrong = wrong ≡ Descriptor

abbrev pub IsRightAt : Option ℕ → Type 0 → Type 0
IsRightAt None Right = Right
IsRightAt (Some n) Right = Unit {0}

-- what is wrong with a command's arguments
abbrev pub IsWrong : Command → Wrong → Type 0
IsWrong (SegmentOf arguments capture explained) wrong = IsWrongAt arguments.descriptor (IsAddress arguments.bind) Bind wrong
IsWrong (MasterOf to descriptor patience capture explained strict) wrong = IsWrongAt descriptor (IsPeer to) To wrong
IsWrong (ScanOf to descriptor patience against capture explained) wrong = IsWrongAt descriptor (IsPeer to) To wrong
IsWrong command wrong = ⊥

-- or nothing is, but for what the system knows
abbrev pub IsRight : Command → Type 0
IsRight (SegmentOf arguments capture explained) = IsRightAt arguments.descriptor (IsAddress arguments.bind)
IsRight (MasterOf to descriptor patience capture explained strict) = IsRightAt descriptor (IsPeer to)
IsRight (ScanOf to descriptor patience against capture explained) = IsRightAt descriptor (IsPeer to)
IsRight command = Unit {0}

-- what the fault stream says of them
abbrev pub wrong_text : Wrong → List ℕ
wrong_text Bind = codes "error: --bind takes an IPv4 address, as 127.0.0.1" ++ 10 ∷ []
wrong_text To = codes "error: --to takes an IPv4 address and a port, as 127.0.0.1:34980" ++ 10 ∷ []
wrong_text Descriptor = codes "error: --descriptor takes the number of a socket that is open" ++ 10 ∷ []
