-- What is promised of a survey is proved.
use Rattle.survey.specs.Promises.{SurveyPromises}
use Rattle.survey.proofs.ImageTest.{pages_test}

pub survey_promises : SurveyPromises
survey_promises = record { image_test = pages_test }
