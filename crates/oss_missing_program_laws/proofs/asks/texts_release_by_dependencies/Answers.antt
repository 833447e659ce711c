use Rattle.oss_missing_program_laws.proofs.ParsedReleases.{texts_release_by_dependencies}
use Rattle.oss_missing_program_laws.proofs.asks.texts_release_by_dependencies.Goals as goal

pub returns : goal.returns
returns c = texts_release_by_dependencies
