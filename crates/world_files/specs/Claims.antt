-- What the code has read to be verified, as the claim that it means.
use Rattle.mz_base.specs.Data.{DataLists}
use Rattle.world_files.specs.Queries.{Claimed}
use Rattle.world_files.specs.declared.query.Claim.{Claim}

-- with the lists of its data set
abbrev pub claimed : Claim → DataLists → Claimed
claimed claim set = record { set = set; certificate = claim.certificate }
