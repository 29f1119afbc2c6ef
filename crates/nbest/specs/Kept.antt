-- Which values a list of candidates has.
use Rattle.std.specs.Prelude.{ℕ, Bool, not, List}
use Rattle.std.specs.List.{list_any}
use Rattle.mz_base.specs.Data.{is_text}
use Rattle.mz_base.specs.declared.lattice.Candidate.{Candidate}

-- some candidate has this value
abbrev pub has_value : List Candidate → List ℕ → Bool
has_value values text = list_any (λ (kept : Candidate). is_text kept.value text) values

abbrev pub is_new : List Candidate → List ℕ → Bool
is_new values text = not (has_value values text)
