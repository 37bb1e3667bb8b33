-- An answer as plain numbers, for C and Rust: the fields of a struct, in order. What a call gives is shown as 0, 0 and its values; a refusal is shown as its
-- number, its place and zeros. No refusal has the number 0, so a first field of 0 says that the call did its work (proofs/Once.antt). Assumes nothing.
use Rattle.std.specs.Prelude.{ℕ, List, [], ◌∷◌, replicate}
use Rattle.packets.specs.Outcome.{Outcome, gives, refuses}
use Rattle.downcrook_c.specs.declared.shown.Judged.{Judged}
use Rattle.downcrook_c.specs.declared.shown.Listed.{Listed}
use Rattle.downcrook_c.specs.declared.shown.Written.{Written}
use Rattle.downcrook_c.specs.declared.shown.Rated.{Rated}
use Rattle.downcrook_c.specs.declared.shown.Planned.{Planned}
use Rattle.downcrook_c.specs.declared.shown.Read.{Read}

-- the outcome of a call that gives n values, as numbers
abbrev pub shown : ℕ → Outcome → List ℕ
shown n (gives values) = 0 ∷ 0 ∷ values
shown n (refuses number place) = number ∷ place ∷ replicate n 0

-- ---- the fields of each struct, in order

abbrev pub judged_fields : Judged → List ℕ
judged_fields r = r.refusal ∷ r.place ∷ []

abbrev pub listed_fields : Listed → List ℕ
listed_fields r = r.refusal ∷ r.place ∷ r.packets ∷ r.bytes ∷ []

abbrev pub written_fields : Written → List ℕ
written_fields r = r.refusal ∷ r.place ∷ r.bytes ∷ []

abbrev pub rated_fields : Rated → List ℕ
rated_fields r = r.refusal ∷ r.place ∷ r.epochs ∷ r.rounds ∷ []

abbrev pub planned_fields : Planned → List ℕ
planned_fields r = r.refusal ∷ r.place ∷ r.rounds ∷ r.entries ∷ r.cost ∷ []

abbrev pub read_fields : Read → List ℕ
read_fields r = r.refusal ∷ r.place ∷ r.entries ∷ r.cost ∷ []
