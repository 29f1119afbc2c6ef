-- What is written of a key's answer.
use Rattle.std.proofs.Common.{◌≡◌, ℕ, List, [], Result, ◌∙◌, ap, subst}
use Rattle.mz_base.specs.Data.{DataLists}
use Rattle.mz_base.specs.declared.conversion.Conversion.{Conversion}
use Rattle.conversion_meaning.specs.Answers.{answer}
use Rattle.conversion_meaning.specs.declared.rules.TheConstants.{RULE_ORDER}
use Rattle.conversion_text.specs.Texts.{conversion_text}
use Rattle.world_files.specs.Reading.{Tells}
use Rattle.mz_base.specs.declared.status.Refusal.{Refusal}
use Rattle.mozc_cli.specs.Reported.{shown}
use Rattle.mozc_cli.specs.Settles.{answered, limited, list_output}
use Rattle.mozc_cli.specs.declared.outputs.Output.{Output}

pub answered-told : (d : DataLists) (key bounds items text : List ℕ) (c : Conversion) (result : Result Output Refusal) → items ≡ bounds → c ≡ answer d [] [] RULE_ORDER key items → text ≡ conversion_text key c → Tells shown result (limited (list_output text)) → Tells shown result (answered key bounds d)
answered-told d key bounds items text c result same is written told =
    let whole : text ≡ conversion_text key (answer d [] [] RULE_ORDER key bounds) = written ∙ ap (conversion_text key) (is ∙ ap (λ bounds. answer d [] [] RULE_ORDER key bounds) same) in
    subst (λ text. Tells shown result (limited (list_output text))) whole told
