use Rattle.scenario.proofs.SentKeys.{sent-same, sent-each, sent-read, sent-space}
use Rattle.scenario.proofs.script_laws.keys_are_sent_one_by_one.Goals as goal

pub returns : goal.returns
returns c = record {
  same = λ text commands is. sent-same text commands is;
  each = λ text commands is. sent-each text commands is;
  read = λ text some few sent. sent-read text some few sent;
  space = sent-space;
}
