use Rattle.fd_top.proofs.Commands.{counted, created, cubed, did_by, plain, played, tried}
use Rattle.fd_top.proofs.running.run.Goals as goal

pub returns-in-Pick-clause-did : goal.returns-in-Pick-clause-did
returns-in-Pick-clause-did g c = did_by _ _ _ _ _ _ _ _ c.in-Pick.is (plain _ _ _ _ _ _ _ tt c.pick.ensures.ran)

pub returns-in-Describe-clause-did : goal.returns-in-Describe-clause-did
returns-in-Describe-clause-did g c = did_by _ _ _ _ _ _ _ _ c.in-Describe.is (plain _ _ _ _ _ _ _ tt c.write_list.ensures.ran)

pub returns-in-Split-clause-did : goal.returns-in-Split-clause-did
returns-in-Split-clause-did g c = did_by _ _ _ _ _ _ _ _ c.in-Split.is (plain _ _ _ _ _ _ _ tt c.split.ensures.ran)

pub returns-in-Values-clause-did : goal.returns-in-Values-clause-did
returns-in-Values-clause-did g c = did_by _ _ _ _ _ _ _ _ c.in-Values.is (plain _ _ _ _ _ _ _ tt c.write_list-in-Values.ensures.ran)

pub returns-in-Generate-clause-did : goal.returns-in-Generate-clause-did
returns-in-Generate-clause-did g c = did_by _ _ _ _ _ _ _ _ c.in-Generate.is (plain _ _ _ _ _ _ _ tt c.generate.ensures.ran)

pub returns-in-Create-clause-did : goal.returns-in-Create-clause-did
returns-in-Create-clause-did g c = did_by _ _ _ _ _ _ _ _ c.in-Create.is (created _ _ _ _ _ _ _ c.create.ensures.ran c.create.ensures.unread)

pub returns-in-Archive-clause-did : goal.returns-in-Archive-clause-did
returns-in-Archive-clause-did g c = did_by _ _ _ _ _ _ _ _ c.in-Archive.is (record { ran = c.archive.ensures.ran; session = tt; cubes = tt; recorded = tt; notices = c.archive.ensures.notices; unread = c.archive.ensures.unread; spares = λ stores. c.archive.ensures.spares; outlasts = c.archive.ensures.outlasts; firm = λ answers. absurd answers })

pub returns-in-Retrieve-clause-did : goal.returns-in-Retrieve-clause-did
returns-in-Retrieve-clause-did g c = did_by _ _ _ _ _ _ _ _ c.in-Retrieve.is (record { ran = c.retrieve.ensures.ran; session = tt; cubes = tt; recorded = tt; notices = c.retrieve.ensures.notices; unread = c.retrieve.ensures.unread; spares = λ stores. absurd stores; outlasts = tt; firm = λ answers. c.retrieve.ensures.firm })

pub returns-in-RetrieveOver-clause-did : goal.returns-in-RetrieveOver-clause-did
returns-in-RetrieveOver-clause-did g c = did_by _ _ _ _ _ _ _ _ c.in-RetrieveOver.is (record { ran = c.retrieve_over.ensures.ran; session = tt; cubes = tt; recorded = tt; notices = c.retrieve_over.ensures.notices; unread = c.retrieve_over.ensures.unread; spares = λ stores. absurd stores; outlasts = tt; firm = λ answers. c.retrieve_over.ensures.firm })

pub returns-in-List-clause-did : goal.returns-in-List-clause-did
returns-in-List-clause-did g c = did_by _ _ _ _ _ _ _ _ c.in-List.is (record { ran = c.list.ensures.lists.ran; session = tt; cubes = tt; recorded = c.list.ensures.lists.recorded; notices = c.list.ensures.lists.notices; unread = c.list.ensures.lists.unread; spares = λ stores. absurd stores; outlasts = tt; firm = λ answers. c.list.ensures.lists.firm })

pub returns-in-Axes-clause-did : goal.returns-in-Axes-clause-did
returns-in-Axes-clause-did g c = did_by _ _ _ _ _ _ _ _ c.in-Axes.is (record { ran = c.axes.ensures.lists.ran; session = tt; cubes = tt; recorded = c.axes.ensures.lists.recorded; notices = c.axes.ensures.lists.notices; unread = c.axes.ensures.lists.unread; spares = λ stores. absurd stores; outlasts = tt; firm = λ answers. c.axes.ensures.lists.firm })

pub returns-in-Stats-clause-did : goal.returns-in-Stats-clause-did
returns-in-Stats-clause-did g c = did_by _ _ _ _ _ _ _ _ c.in-Stats.is (counted _ _ _ _ _ _ _ c.stats.ensures.ran c.stats.ensures.notices c.stats.ensures.recorded c.stats.ensures.firm)

pub returns-in-Cubes-clause-did : goal.returns-in-Cubes-clause-did
returns-in-Cubes-clause-did g c = did_by _ _ _ _ _ _ _ _ c.in-Cubes.is (cubed _ _ _ _ _ _ _ c.cubes.ensures.ran)

pub returns-in-Session-clause-did : goal.returns-in-Session-clause-did
returns-in-Session-clause-did g c = did_by _ _ _ _ _ _ _ _ c.in-Session.is (played _ _ _ _ _ _ _ c.session.ensures.ran c.session.ensures.unread)

pub returns-in-Trial-clause-did : goal.returns-in-Trial-clause-did
returns-in-Trial-clause-did g c = did_by _ _ _ _ _ _ _ _ c.in-Trial.is (tried _ _ _ _ _ _ _ _ _ c.trial.ensures.ran c.trial.ensures.outlasts c.trial.ensures.notices c.trial.ensures.spares)

pub returns-in-Purge-clause-did : goal.returns-in-Purge-clause-did
returns-in-Purge-clause-did g c = did_by _ _ _ _ _ _ _ _ c.in-Purge.is (plain _ _ _ _ _ _ _ tt c.purge.ensures.ran)

pub returns-in-Wipe-clause-did : goal.returns-in-Wipe-clause-did
returns-in-Wipe-clause-did g c = did_by _ _ _ _ _ _ _ _ c.in-Wipe.is (plain _ _ _ _ _ _ _ tt c.wipe.ensures.ran)
