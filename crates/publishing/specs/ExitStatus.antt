-- The exit status after a publish.
use Rattle.std.specs.Prelude.{ℕ, Result, Ok, Err}
use Rattle.publishing.specs.declared.fault.PublishFault.{PublishFault}
use Rattle.publishing.specs.declared.fault.PublishFault.TheVariants as fault
use Rattle.publishing.specs.declared.status.PublishStatus.{PublishStatus}
use Rattle.publishing.specs.declared.status.PublishStatus.TheVariants.{Published, Passed, AlreadyServed, Faulty, Refused}

abbrev pub publish_number : Result PublishStatus PublishFault → ℕ
publish_number (Ok (Published n)) = 0
publish_number (Ok (Passed n)) = 0
publish_number (Ok (AlreadyServed n)) = 0
publish_number (Ok (Faulty counts)) = 1
publish_number (Ok Refused) = 1
publish_number (Err fault.Memory) = 4
publish_number (Err _) = 3
