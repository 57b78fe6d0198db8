use Rattle.words_service.proofs.ServiceLaws.{service-read}
use Rattle.words_service.proofs.service_at.Goals as goal

pub returns : goal.returns
returns c = service-read _ _ c.requires
