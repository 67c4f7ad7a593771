use Rattle.fare_keeping.proofs.Kept.{kept_can_be_read, kept_lines_are, kept_scheme_is, one_kept_scheme, something_kept}
use Rattle.fare_keeping.proofs.laws.what_is_kept_tells_its_scheme.Goals as goal

pub returns-clause-lines : goal.returns-clause-lines
returns-clause-lines c = kept_lines_are

pub returns-clause-scheme : goal.returns-clause-scheme
returns-clause-scheme c = kept_scheme_is

pub returns-clause-one : goal.returns-clause-one
returns-clause-one c = one_kept_scheme

pub returns-clause-something : goal.returns-clause-something
returns-clause-something c = something_kept

pub returns-clause-readable : goal.returns-clause-readable
returns-clause-readable c = kept_can_be_read
