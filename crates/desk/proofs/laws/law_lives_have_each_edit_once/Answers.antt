use Rattle.desk.proofs.Begins as begin
use Rattle.desk.proofs.Lives as life
use Rattle.desk.proofs.laws.law_lives_have_each_edit_once.Goals as goal

pub returns : goal.returns
returns c = record { lives = life.lives; opens = begin.opens_begin; adoptions = begin.adoptions_begin; closes = begin.closes_end }
