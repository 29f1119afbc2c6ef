-- What was read of a sound manifest can be run.
use Rattle.std.proofs.Common.{◌≡◌, ℕ, ◌+◌, ◌==◌, ◌<◌, ◌≤◌, ◌^◌, Bool, true, false, List, [], ◌∷◌, map, ◌-◌, length, refl, sym, ap, ◌∙◌, arith}
use Rattle.std.proofs.lemmas.List.{length-map}
use Rattle.std.specs.Prelude.{IsOk, IsTrue}
use Rattle.std.specs.List.{All}
use Rattle.std.proofs.lemmas.List.Elements.{All-cons, All-head, All-nil, All-tail}
use Rattle.run_meaning.specs.Numbers.{is_number}
use Rattle.run_meaning.specs.Worlds.{ClientPlan, IsCounted, IsWorld, UserPlan, World, job_at}
use Rattle.scenario.specs.Manifests.{dicts_of}
use Rattle.scenario.specs.Sound.{IsOneOf}
use Rattle.scenario.specs.declared.manifest.ClientLine.{ClientLine}
use Rattle.scenario.specs.declared.manifest.DictLine.{DictLine}
use Rattle.scenario.specs.declared.manifest.TheConstants.{MOST_DICTIONARIES}
use Rattle.world_files.specs.Reloads.{Reload, reloads_of}
use Rattle.world_files.specs.Sound.{AreReloadsOf, AreSound}
use Rattle.world_files.specs.Users.{gift_of, plan_of, plans_from}
use Rattle.world_files.specs.declared.world.Sources.{Sources}

-- ---- A user has as many reloads as lines

counts-more : (number : ℕ) (reload : Reload) (line : DictLine) (reloads : List Reload) (lines : List DictLine) (own : Bool) → (line.user == number) ≡ own → reload.user ≡ line.user → length (reloads_of number reloads) ≡ length (dicts_of number lines) → length (reloads_of number (reload ∷ reloads)) ≡ length (dicts_of number (line ∷ lines))
counts-more number reload line reloads lines true is same rest = simp (same, is) (omega (arith, rest))
counts-more number reload line reloads lines false is same rest = simp (same, is) rest

length-reloads_of : (number : ℕ) (reloads : List Reload) (lines : List DictLine) → AreReloadsOf lines reloads → length (reloads_of number reloads) ≡ length (dicts_of number lines)
length-reloads_of number [] [] are = refl
length-reloads_of number [] (line ∷ lines) are = absurd cc
length-reloads_of number (reload ∷ reloads) [] are = absurd cc
length-reloads_of number (reload ∷ reloads) (line ∷ lines) are =
    let same : reload.user ≡ line.user = cc in
    let rest : AreReloadsOf lines reloads = cc in
    counts-more number reload line reloads lines (line.user == number) refl same (length-reloads_of number reloads lines rest)

few-gifts : (reloads : List Reload) (lines : List DictLine) (number : ℕ) (names : List (List ℕ)) → AreReloadsOf lines reloads → ((user : ℕ) → length (dicts_of user lines) ≤ MOST_DICTIONARIES) → All (λ (user : UserPlan). IsCounted user.reloads) (plans_from reloads number names)
few-gifts reloads lines number [] are few = All-nil (λ (user : UserPlan). IsCounted user.reloads)
few-gifts reloads lines number (name ∷ names) are few =
    let count = length-map (reloads_of number reloads) gift_of in
    let own : IsCounted (plan_of reloads number name).reloads = omega (arith, count, length-reloads_of number reloads lines are, few number) in
    All-cons (λ (user : UserPlan). IsCounted user.reloads) (plan_of reloads number name) (plans_from reloads (number + 1) names) own (few-gifts reloads lines (number + 1) names are few)

-- ---- Users are those that are named

as-many-users : (reloads : List Reload) (number : ℕ) (names : List (List ℕ)) → length (plans_from reloads number names) ≡ length names
as-many-users reloads number [] = refl
as-many-users reloads number (name ∷ names) = omega (arith, as-many-users reloads (number + 1) names)

abbrev IsUserIn : List UserPlan → ClientPlan → Type 0
IsUserIn users client = IsTrue (is_number users client.user)

users-there : (users : List UserPlan) (count : ℕ) (clients : List ClientPlan) (lines : List ClientLine) → length users ≡ count → map (λ (client : ClientPlan). client.user) clients ≡ map (λ (line : ClientLine). line.user) lines → All (λ (line : ClientLine). IsOneOf count line.user) lines → All (IsUserIn users) clients
users-there users count [] lines many are named = All-nil (IsUserIn users)
users-there users count (client ∷ clients) [] many are named = absurd cc
users-there users count (client ∷ clients) (line ∷ lines) many are named =
    let same : client.user ≡ line.user = cc in
    let rest : map (λ (client : ClientPlan). client.user) clients ≡ map (λ (line : ClientLine). line.user) lines = cc in
    let own = All-head (λ (line : ClientLine). IsOneOf count line.user) line lines named in
    let first : 1 ≤ client.user = omega (arith, same, own.first) in
    let last : client.user ≤ length users = omega (arith, same, many, own.last) in
    All-cons (IsUserIn users) client clients (grind (arith, first, last)) (users-there users count clients lines many rest (All-tail (λ (line : ClientLine). IsOneOf count line.user) line lines named))

-- ---- The world

pub read-is-world : (read : Sources) (world : World) → AreSound read → IsOk (job_at world 1) → length world.jobs ≡ 1 + (length read.manifest.sets - 1) → world.users ≡ plans_from read.reloads 1 read.manifest.users → world.clients ≡ read.clients → IsWorld world
read-is-world read world sound first jobs users clients =
    let limits = sound.manifest.limits in
    let many = as-many-users read.reloads 1 read.manifest.users in
    let count : length world.users ≡ length read.manifest.users = ap length users ∙ many in
    record {
      first = first;
      users_there = rw clients (users-there world.users (length read.manifest.users) read.clients read.manifest.clients count sound.users limits.clients);
      jobs = omega (arith, jobs, limits.few_sets);
      users = omega (arith, count, limits.few_users);
      clients = let mapped = length-map read.clients (λ (client : ClientPlan). client.user) in let lines = length-map read.manifest.clients (λ (line : ClientLine). line.user) in omega (arith, ap length clients, mapped, lines, ap length sound.users, limits.few_clients);
      reloads = rw users (few-gifts read.reloads read.manifest.dicts 1 read.manifest.users sound.reloads limits.few_dicts);
      commands = rw clients sound.commands;
    }
