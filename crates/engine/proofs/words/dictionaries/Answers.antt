use Rattle.std.proofs.Common.{rules}
use Rattle.std.proofs.lemmas.Iterator.{YieldsList-from_slice}
use Rattle.std.proofs.lemmas.Iterator.Consumers.{YieldsList-from_filter, map_from_collect}
use Rattle.std.proofs.lemmas.Result.{IfOk-at_ok}
use Rattle.mz_base.specs.declared.fault.Role.TheVariants.{Dictionary}
use Rattle.engine.specs.Sets.{has_role}
use Rattle.engine.proofs.words.dictionaries.Goals as goal

pub returns : goal.returns
returns c =
    IfOk-at_ok _ c.in_ok-found.was (map_from_collect _ c.collect.ensures.ran (YieldsList-from_filter _ (has_role Dictionary) (YieldsList-from_slice c.args.files.now cc) c.filter.ensures.closure (λ x b q k. search rules)))
