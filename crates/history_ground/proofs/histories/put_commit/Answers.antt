use Rattle.git_objects.specs.declared.kind.Kind.TheVariants.{Commit}
use Rattle.object_store.proofs.PutObjects.{put_is}
use Rattle.history_ground.proofs.histories.put_commit.Goals as goal

pub returns-in-Ok-clause-ok : goal.returns-in-Ok-clause-ok
returns-in-Ok-clause-ok c = (put_is c.args.store.now Commit c.args.body.items c.put.new.self c.requires c.in-Ok.ensures.ok.1 c.put.ensures.store c.in-Ok.ensures.ok.2).found

pub returns-in-Ok-clause-store : goal.returns-in-Ok-clause-store
returns-in-Ok-clause-store c = (put_is c.args.store.now Commit c.args.body.items c.put.new.self c.requires c.in-Ok.ensures.ok.1 c.put.ensures.store c.in-Ok.ensures.ok.2).grown
