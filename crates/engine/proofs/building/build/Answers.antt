use Rattle.engine.proofs.SoundData.{AreDataSound-given}
use Rattle.engine.proofs.building.build.Goals as goal

pub build-requires : goal.build-requires
build-requires c =
    rw c.as_slice-2.ensures.value ((AreDataSound-given _ _ c.in_ok-tables.ensures).few_words)

pub of-requires-clause-sound : goal.of-requires-clause-sound
of-requires-clause-sound c = AreDataSound-given _ _ c.in_ok-tables.ensures
