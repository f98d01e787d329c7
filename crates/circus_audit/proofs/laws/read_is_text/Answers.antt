use Rattle.circus_audit.proofs.SoundingRecord.{read_is_record}
use Rattle.circus_audit.proofs.laws.read_is_text.Goals as goal

pub returns : goal.returns
returns c = read_is_record
