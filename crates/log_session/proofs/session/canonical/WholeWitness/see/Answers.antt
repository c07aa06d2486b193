use Rattle.log_session.proofs.Prelude.{◌≡◌, refl, change_view, store_of}
use Rattle.log_session.proofs.Records.TakenLemmas.{plan_whole}
use Rattle.log_session.proofs.session.canonical.WholeWitness.see.Goals as goal

pub returns : goal.returns
returns c =
    let store : c.store.result.now ≡ store_of c.args.session.now.server = rw (c.store.ensures, c.server.ensures) refl in
    plan_whole c.args.session.now.server (change_view c.args._params.now) c.requires.planned store
    c.in_ok-appended.appended c.args.self.now.written.bytes.items c.append_whole.new.output.items
    c.in_ok-appended.ensures
