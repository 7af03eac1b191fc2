use Rattle.std.proofs.Common.{◌≡◌, ap, ◌∙◌, rules, string_bytes}
use Rattle.fd_request.specs.Limits.{request_of}
use Rattle.fd_cubes.specs.Cubes.{IsCube, cube_text}
use Rattle.fd_cubes.proofs.ReadsBack.{reads_back}
use Rattle.fd_cubes.proofs.cube.Cube.text.Goals as goal

pub returns-clause-read : goal.returns-clause-read
returns-clause-read c =
    let e : string_bytes c.in_ok-from_str.field-0 ≡ cube_text c.args.self.now = search rules in
    let is : IsCube c.args.self.now = search rules in
    ap request_of e ∙ reads_back c.args.self.now is
