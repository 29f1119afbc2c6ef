use Rattle.std.proofs.Common.{◌≡◌, sym, ◌∙◌, subst, List, Some, None, ◌<◌, length}
use Rattle.std.specs.List.{position}
use Rattle.mz_base.specs.Data.{is_text}
use Rattle.mz_base.specs.declared.lattice.Candidate.{Candidate}
use Rattle.session.proofs.PlaceLemmas.{place-none, place-some}
use Rattle.session.proofs.picks.place_of.Goals as goal

pub returns-in-None : goal.returns-in-None
returns-in-None c =
    let passes = λ (candidate : Candidate). is_text c.args.value.now candidate.value in
    let none = sym c.position_of.ensures.place ∙ c.in-None.is in
    place-none (λ (candidate : Candidate). candidate.value) (is_text c.args.value.now) c.args.segment.now.candidates (subst (λ xs. position passes xs ≡ None) c.as_slice.ensures none)

pub returns-in-Some : goal.returns-in-Some
returns-in-Some c =
    let passes = λ (candidate : Candidate). is_text c.args.value.now candidate.value in
    let some = sym c.position_of.ensures.place ∙ c.in-Some.is in
    let inside = subst (λ (xs : List Candidate). c.in-Some.place < length xs) c.as_slice.ensures c.in-Some.ensures.inside in
    place-some (λ (candidate : Candidate). candidate.value) (is_text c.args.value.now) c.args.segment.now.candidates c.in-Some.place inside (subst (λ xs. position passes xs ≡ Some c.in-Some.place) c.as_slice.ensures some)
