mod TwoAnswers
