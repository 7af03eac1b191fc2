use Rattle.fd_spelling.proofs.AsciiLaws.{name_is_ascii, value_is_ascii}
use Rattle.fd_key.proofs.given.new_pair.Goals as goal

pub text_from-requires : goal.text_from-requires
text_from-requires c = name_is_ascii c.in-Some.name.now c.in-Some.ensures.name

pub text_from-requires-2 : goal.text_from-requires-2
text_from-requires-2 c = value_is_ascii c.in-Some.value.now c.in-Some.ensures.value
