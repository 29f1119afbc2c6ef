use Rattle.mz_base.proofs.Found.{longest-one_of, longest-fits, longest-none_longer, longest-none, none-longest}
use Rattle.mz_base.proofs.laws.longest_is_longest.Goals as goal

pub returns : goal.returns
returns c = record {
  one_of = longest-one_of;
  fits = longest-fits;
  none_longer = longest-none_longer;
  none = λ rules text. (longest-none rules text, none-longest rules text);
}
