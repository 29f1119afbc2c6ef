mod AddLemmas
mod AgainLemmas
mod MoveLemmas
mod SeenLemmas
mod TenLemmas
mod WorthLemmas
