-- What stands at the number of a reload, by what its file gave.
use Rattle.std.proofs.Common.{Bor, IfSome, is_some, nat_lt, length, get_or, ◌≡◌, ℕ, ◌+◌, suc, refl, sym, ap, ◌∙◌, List, map, Option, Some, None, Result, arith}
use Rattle.std.specs.declared.sync.Arc.{Arc}
use Rattle.std.specs.List.{slice_get}
use Rattle.std.proofs.lemmas.Option.{slice_get-map, slice_get_read, unwrap_or-slice_get}
use Rattle.std.specs.Option.{option_map, unwrap_or}
use Rattle.std.proofs.lemmas.Bool.{leb-true}
use Rattle.user_dict.specs.declared.dictionary.UserDict.{UserDict}
use Rattle.user_dict.specs.declared.error.ImportError.{ImportError}
use Rattle.run_meaning.specs.Users.{no_reload, reload_at}
use Rattle.run_meaning.specs.Worlds.{Reload}
use Rattle.core_steps.specs.Plans.{reload_of}

-- what is read at the place before a number is what stands at the number
reload_found : {A : Type 0} → (dicts : List (Result (Arc UserDict A) ImportError)) (reload place : ℕ) (found : Option (Result (Arc UserDict A) ImportError)) → place + 1 ≡ reload → slice_get dicts place ≡ found → reload_at (map reload_of dicts) reload ≡ unwrap_or (option_map reload_of found) no_reload
reload_found dicts reload place found is get =
    let number : suc place ≡ reload = omega (arith, is) in
    ap (reload_at (map reload_of dicts)) (sym number)
    ∙ (sym (unwrap_or-slice_get (map reload_of dicts) place no_reload)
    ∙ ap (λ (o : Option Reload). unwrap_or o no_reload) (slice_get-map reload_of dicts place ∙ ap (option_map reload_of) get))

-- the same of what was lent
pub reload_there : {A : Type 0} → (dicts : List (Result (Arc UserDict A) ImportError)) (reload place : ℕ) (got : Option (Bor (Result (Arc UserDict A) ImportError))) → place + 1 ≡ reload → is_some got ≡ nat_lt place (length dicts) → IfSome got (λ dict. dict.now ≡ get_or dicts place dict.now) → IfSome got (λ dict. reload_at (map reload_of dicts) reload ≡ reload_of dict.now)
reload_there dicts reload place None is within read = tt
reload_there dicts reload place (Some dict) is within read =
    reload_found dicts reload place (Some dict.now) is (slice_get_read dicts (length dicts) place dict.now refl (leb-true (suc place) (length dicts) (sym within)) read)
