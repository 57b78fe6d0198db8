use Rattle.words_service.proofs.TakenLaws.{few, back}
use Rattle.words_service.proofs.take_services.Goals as goal

pub put_services-requires : goal.put_services-requires
put_services-requires c =
    few _ _ _ c.args.store.now c.args.from c.args.end c.args.size _ c.requires.0
    c.services_of-old.ensures c.take_services-found.ensures

pub returns : goal.returns
returns c =
    back _ _ _ c.args.store.now c.args.from c.args.end c.args.size _ c.requires.0
    c.services_of-old.ensures c.take_services-found.ensures _ c.put_services.ensures
