use Rattle.moo_token.proofs.Sound.{sound}
use Rattle.moo_token.proofs.tokens.sound_tokens.Goals as goal

pub returns : goal.returns
returns c = λ text line ps e h. sound h
