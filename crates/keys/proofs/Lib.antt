mod KeyLaws
mod NameLemmas
