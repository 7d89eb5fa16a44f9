-- The reader of an SII's words, step by step, as ec_sii's laws have it.
use Rattle.std.proofs.Common.{ℕ, suc, ◌≡◌, ◌==◌, ◌%◌, ◌/◌, List, [], ◌∷◌, take, if◌then◌else◌, Some, None}
use Rattle.ec_sii.specs.Reading.{found_behind, managers_read, entries_read}
use Rattle.ec_sii.proofs.Steps.{categories_law, managers_law, pdos_law}

-- ---- categories

pub none_left : (wanted : ℕ) → found_behind 0 wanted [] ≡ None
none_left wanted = categories_law.none_left wanted

pub one_left : (wanted word : ℕ) → found_behind 0 wanted (word ∷ []) ≡ None
one_left wanted word = categories_law.one_left wanted word

pub passed_end : (more wanted : ℕ) → found_behind (suc more) wanted [] ≡ None
passed_end more wanted = categories_law.passed_end more wanted

pub passed_word : (more wanted word : ℕ) (words : List ℕ) → found_behind (suc more) wanted (word ∷ words) ≡ found_behind more wanted words
passed_word more wanted word words = categories_law.passed_word more wanted word words

pub at_category : (wanted number count : ℕ) (words : List ℕ)
    → found_behind 0 wanted (number ∷ count ∷ words) ≡ (if number == 0xFFFF then None else (if number == wanted then Some (take count words) else found_behind count wanted words))
at_category wanted number count words = categories_law.at_category wanted number count words

-- ---- sync managers

pub no_manager : managers_read [] ≡ []
no_manager = managers_law.no_manager

pub one_of_four : (a : ℕ) → managers_read (a ∷ []) ≡ []
one_of_four a = managers_law.one_of_four a

pub two_of_four : (a b : ℕ) → managers_read (a ∷ b ∷ []) ≡ []
two_of_four a b = managers_law.two_of_four a b

pub three_of_four : (a b c : ℕ) → managers_read (a ∷ b ∷ c ∷ []) ≡ []
three_of_four a b c = managers_law.three_of_four a b c

pub a_manager : (start long control last : ℕ) (words : List ℕ)
    → managers_read (start ∷ long ∷ control ∷ last ∷ words)
    ≡ record { settings = record { start = start; length = long; control = control % 256; activate = last % 256 }; usage = last / 256 } ∷ managers_read words
a_manager start long control last words = managers_law.a_manager start long control last words

-- ---- PDOs

pub cut_none : (more : ℕ) → entries_read more [] ≡ record { entries = []; pdos = [] }
cut_none more = pdos_law.cut_none more

pub cut_one : (more a : ℕ) → entries_read more (a ∷ []) ≡ record { entries = []; pdos = [] }
cut_one more a = pdos_law.cut_one more a

pub cut_two : (more a b : ℕ) → entries_read more (a ∷ b ∷ []) ≡ record { entries = []; pdos = [] }
cut_two more a b = pdos_law.cut_two more a b

pub cut_three : (more a b c : ℕ) → entries_read more (a ∷ b ∷ c ∷ []) ≡ record { entries = []; pdos = [] }
cut_three more a b c = pdos_law.cut_three more a b c

pub a_pdo : (index number names flags : ℕ) (words : List ℕ)
    → entries_read 0 (index ∷ number ∷ names ∷ flags ∷ words)
    ≡ record {
      entries = [];
      pdos = record { manager = number / 256; pdo = record { index = index; entries = (entries_read (number % 256) words).entries } } ∷ (entries_read (number % 256) words).pdos;
    }
a_pdo index number names flags words = pdos_law.a_pdo index number names flags words

pub an_entry : (more index subindex bits flags : ℕ) (words : List ℕ)
    → entries_read (suc more) (index ∷ subindex ∷ bits ∷ flags ∷ words)
    ≡ record {
      entries = record { index = index; subindex = subindex % 256; bits = bits / 256 } ∷ (entries_read more words).entries;
      pdos = (entries_read more words).pdos;
    }
an_entry more index subindex bits flags words = pdos_law.an_entry more index subindex bits flags words
