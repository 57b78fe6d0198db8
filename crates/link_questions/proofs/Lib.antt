pub mod QuestionLaws
