use Rattle.replay_core.proofs.laws.all_answered_is_complete.Goals as goal

pub returns : goal.returns
returns c = λ desk kept whole. record { replay = record { sound = kept.sound; complete = record { legal = kept.legal; truthful = kept.truthful; whole = whole } }; texts = kept.texts }
