-- A call that goes on after a part's answer, or hands on its refusal.
use Rattle.std.proofs.Common.{◌≡◌, Option, Some, None, Result, Ok, Err, refl}
use Rattle.mz_base.specs.Answers.{◌>>=◌, GivesBy, Tells}

Tells-on : {B D F : Type 0} (told : Option F) (part : Result D F) (next : D → Result B F) → Tells told part → Tells told (part >>= next)
Tells-on (Some fault) part next given = rw given refl
Tells-on None part next given = tt

Tells-whole : {B D F : Type 0} (told : Option F) (part : Result D F) (whole : Result B F) → Tells told part → ((fault : F) → part ≡ Err fault → whole ≡ Err fault) → Tells told whole
Tells-whole (Some fault) part whole given passes = passes fault given
Tells-whole None part whole given passes = tt

module _ {A B C D E F : Type 0} (fault : E → Option F) (view : A → B) (part_view : C → D) (answer : Result A E) (error : E) (part : Result D F) where
  -- the part's refusal is the whole's
  pub GivesBy-handed_on : (next : D → Result B F) → answer ≡ Err error → GivesBy fault part_view (Err error) part → GivesBy fault view answer (part >>= next)
  GivesBy-handed_on next is given = rw is (Tells-on (fault error) part next given)

  -- a refusal is passed on, and the whole has the fault where the part has it
  pub GivesBy-refused : (whole : Result B F) → answer ≡ Err error → GivesBy fault part_view (Err error) part → ((fault : F) → part ≡ Err fault → whole ≡ Err fault) → GivesBy fault view answer whole
  GivesBy-refused whole is given passes = rw is (Tells-whole (fault error) part whole given passes)

-- what a whole gives, its part gave
pub part_gave : {A B E : Type 0} (part : Result A E) (next : A → Result B E) (whole : B) → (part >>= next) ≡ Ok whole → (value : A) × (part ≡ Ok value) × (next value ≡ Ok whole)
part_gave (Ok value) next whole given = (value, refl, given)
part_gave (Err fault) next whole given = absurd cc
