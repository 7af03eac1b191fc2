use Rattle.fd_request.proofs.Ends.{number_fits_back, hour_fits, day_fits}
use Rattle.fd_request.proofs.end.end_in.Goals as goal

pub returns-in-Some-clause-fits : goal.returns-in-Some-clause-fits
returns-in-Some-clause-fits c = number_fits_back c.in-Some.number c.in-Some.ensures.low c.in-Some.ensures.high

pub returns-in-Some-hour_of-clause-fits : goal.returns-in-Some-hour_of-clause-fits
returns-in-Some-hour_of-clause-fits c = hour_fits c.in-Some-hour_of.hour c.in-Some-hour_of.ensures.small

pub returns-in-Some-day_of-clause-fits : goal.returns-in-Some-day_of-clause-fits
returns-in-Some-day_of-clause-fits c = day_fits c.in-Some-day_of.day
