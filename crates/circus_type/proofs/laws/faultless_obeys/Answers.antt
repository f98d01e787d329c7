use Rattle.circus_type.specs.declared.cause.TypeCause.{TypeCause}
use Rattle.circus_type.proofs.InsideObeys.{inside_obeys}
use Rattle.circus_type.proofs.laws.faultless_obeys.Goals as goal

pub returns : goal.returns
returns c = λ unknown forms known t good clean. inside_obeys (λ (cause : TypeCause). cause) unknown forms known t good clean
