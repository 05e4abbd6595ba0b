use Rattle.ua_services.proofs.Fits.{written_few}
use Rattle.ua_services.proofs.many.put_many.Goals as goal

pub returns-clause-spelled : goal.returns-clause-spelled
returns-clause-spelled g c = written_few g.T.Encode.view g.T.Encode.format c.args.items.now
    c.put_array.result c.requires.few c.put_array.ensures.spelled
