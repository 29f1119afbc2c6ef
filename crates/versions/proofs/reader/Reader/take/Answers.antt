use Rattle.std.proofs.Common.{sym, ap}
use Rattle.versions.proofs.Histories.{Begins-self, Begins-same}
use Rattle.versions.proofs.Rules.{shows_no_less}
use Rattle.versions.proofs.reader.Reader.take.Goals as goal

pub enter_as-requires : goal.enter_as-requires
enter_as-requires g c = λ x. shows_no_less (λ s. s.known) _ _ x x (Begins-self _)

-- where nothing new was kept, the reader stands for what it stood for
pub returns-in_err-news-clause-grows : goal.returns-in_err-news-clause-grows
returns-in_err-news-clause-grows g c = Begins-same _ _ (ap (λ s. s.prefix) (sym c.self.view_is))

pub returns-in_err-answer-clause-grows : goal.returns-in_err-answer-clause-grows
returns-in_err-answer-clause-grows g c = Begins-same _ _ (ap (λ s. s.prefix) (sym c.self.view_is))

pub returns-in_err-answer-2-clause-grows : goal.returns-in_err-answer-2-clause-grows
returns-in_err-answer-2-clause-grows g c = Begins-same _ _ (ap (λ s. s.prefix) (sym c.self.view_is))

pub returns-clause-grows : goal.returns-clause-grows
returns-clause-grows g c = Begins-same _ _ (ap (λ s. s.prefix) (sym c.self.view_is))
