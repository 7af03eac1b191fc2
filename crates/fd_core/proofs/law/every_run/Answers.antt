use Rattle.fd_machine.specs.Machine.{run, start}
use Rattle.fd_machine.proofs.EveryRun.{fetches, sees, grows, post, only_post, survives, images, only_reopens}
use Rattle.fd_core.proofs.law.every_run.Goals as goal

pub returns-clause-fetches : goal.returns-clause-fetches
returns-clause-fetches c = fetches

pub returns-clause-grows : goal.returns-clause-grows
returns-clause-grows c = grows

pub returns-clause-sees : goal.returns-clause-sees
returns-clause-sees c = sees

pub returns-clause-post : goal.returns-clause-post
returns-clause-post c = λ steps. post (run steps start)

pub returns-clause-only_post : goal.returns-clause-only_post
returns-clause-only_post c = λ steps. only_post (run steps start)

pub returns-clause-crash : goal.returns-clause-crash
returns-clause-crash c = survives

pub returns-clause-images : goal.returns-clause-images
returns-clause-images c = images

pub returns-clause-down : goal.returns-clause-down
returns-clause-down c = λ steps. only_reopens (run steps start)
