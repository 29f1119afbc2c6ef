-- A text that is sent is its characters, sent one after the other.
use Rattle.std.proofs.Common.{◌≡◌, ℕ, zero, suc, ◌≤◌, List, [], ◌∷◌, ◌++◌, length, Option, Some, None, true, cond, refl, sym, subst, ◌∙◌, ap, arith}
use Rattle.std.specs.Prelude.{IsSome, codes, nat_le, unwrap_or, ◌&&◌, not, is_none, option_map, option_to_list}
use Rattle.std.specs.List.{flat_map, list_all}
use Rattle.keys.specs.Names.{key_of, key_of_char}
use Rattle.keys.specs.declared.command.Command.{Command}
use Rattle.keys.specs.declared.command.Command.TheVariants as command
use Rattle.keys.specs.declared.key.Key.{Key}
use Rattle.keys.specs.declared.key.Key.TheVariants as key
use Rattle.scenario.specs.Scripts.{is_key, typed, pressed, one, keys_of, spelled}
use Rattle.scenario.specs.ScriptLines.{sent, AreSent}
use Rattle.scenario.specs.declared.script.TheConstants.{MOST_KEYS}
use Rattle.scenario.proofs.AnswerSteps.{if-Some}

-- what a key asks alone, and in a text
pressed-one : (k : Option Key) → option_to_list (pressed k) ≡ unwrap_or (option_map one (pressed k)) []
pressed-one None = refl
pressed-one (Some k) = refl

typed-sent : (c : ℕ) → typed c ≡ sent c
unfolding spelled key_of
typed-sent c = pressed-one (key_of_char c)

all-sent : (text : List ℕ) → flat_map typed text ≡ flat_map sent text
all-sent [] = refl
all-sent (c ∷ text) = ap (λ first. first ++ flat_map typed text) (typed-sent c) ∙ ap (λ rest. sent c ++ rest) (all-sent text)

key-sent : (k : Option Key) → not (is_none k) ≡ true → IsSome (option_map one (pressed k))
key-sent None is = absurd cc
key-sent (Some k) is = refl

sent-key : (k : Option Key) → IsSome (option_map one (pressed k)) → not (is_none k) ≡ true
sent-key None is = absurd cc
sent-key (Some k) is = refl

char-sent : (c : ℕ) → is_key c ≡ true → IsSome (spelled (codes "SEND_KEY") (c ∷ []))
unfolding spelled key_of
char-sent c is = key-sent (key_of_char c) is

sent-char : (c : ℕ) → IsSome (spelled (codes "SEND_KEY") (c ∷ [])) → is_key c ≡ true
unfolding spelled key_of
sent-char c is = sent-key (key_of_char c) is

keys-sent : (text : List ℕ) → list_all is_key text ≡ true → AreSent text
keys-sent [] is place inside = absurd (omega (arith, inside))
keys-sent (c ∷ text) is zero inside = char-sent c (grind (arith, is))
keys-sent (c ∷ text) is (suc place) inside = keys-sent text (grind (arith, is)) place (omega (arith, inside))

sent-keys : (text : List ℕ) → AreSent text → list_all is_key text ≡ true
sent-keys [] sent = refl
sent-keys (c ∷ text) sent =
    let first = sent-char c (sent 0 (omega arith)) in
    let rest = sent-keys text (λ place inside. sent (suc place) (omega (arith, inside))) in
    rw first rest

spelled-Some : (text : List ℕ) (commands : List Command) → spelled (codes "SEND_KEYS") text ≡ Some commands → (list_all is_key text ≡ true) × (flat_map typed text ≡ commands)
unfolding spelled keys_of
spelled-Some text commands is =
    let (holds, same) = if-Some (nat_le 1 (length text) && (nat_le (length text) MOST_KEYS && list_all is_key text)) (Some (flat_map typed text)) commands is in
    (grind (arith, holds), cc)

pub sent-same : (text : List ℕ) (commands : List Command) → spelled (codes "SEND_KEYS") text ≡ Some commands → commands ≡ flat_map sent text
sent-same text commands is = sym (spelled-Some text commands is).1 ∙ all-sent text

pub sent-each : (text : List ℕ) (commands : List Command) → spelled (codes "SEND_KEYS") text ≡ Some commands → AreSent text
sent-each text commands is = keys-sent text (spelled-Some text commands is).0

pub sent-read : (text : List ℕ) → 1 ≤ length text → length text ≤ MOST_KEYS → AreSent text → IsSome (spelled (codes "SEND_KEYS") text)
unfolding spelled keys_of
sent-read text some few sent =
    let all = sent-keys text sent in
    let holds : (nat_le 1 (length text) && (nat_le (length text) MOST_KEYS && list_all is_key text)) ≡ true = grind (arith, some, few, all) in
    subst (λ test. IsSome (cond test (Some (flat_map typed text)) None)) (sym holds) refl

pub sent-space : sent 32 ≡ command.Key key.Space ∷ []
unfolding spelled key_of
sent-space = refl
